-- A part that was found, as a part of the whole window: `part_lies`, `length-left`; the same where so many come at most:
-- `counted_apart`. The same once it is lent: `taken_by`. One more that is passed over: `passed_more`; the last that is
-- looked for: `found_nth`, `none_nth`; what stays from one to the next: `kept_on`, `fewer_on`.
use Rattle.std.proofs.Common.{◌≡◌, ℕ, ◌+◌, ◌*◌, ◌≤◌, Bool, true, false, cond, List, length, Option, Some, None, sym, ◌∙◌}
use Rattle.std.proofs.Common.{refl, ap, arith, Bor}
use Rattle.std.proofs.Common.{[], ◌∷◌, ◌++◌, inl, inr, subst, true≢false}
use Rattle.std.proofs.lemmas.Bool.{cases_lt}
use Rattle.std.proofs.lemmas.List.{length_push}
use Rattle.std.specs.Fn.{Mut}
use Rattle.std.specs.Iterator.{SkipsThenYields, Yields}
use Rattle.bit_addressing_memory.specs.Memory.{Reading, memory, piece}
use Rattle.bit_addressing_memory.proofs.MemoryLemmas.{length-memory, length-piece, piece_piece}
use Rattle.bit_slice_iterators.proofs.PartLemmas.{part_bits}
use Rattle.bit_slice_splits.specs.Ways.{SplitWay}
use Rattle.bit_slice_splits.specs.SplitsMut.{KeepsWindow, PartsBy}
use Rattle.bit_slice_splits.specs.declared.splits_mut.SplitsMut.{SplitsMut}
use Rattle.bit_slice_splits.specs.Takes.{PartLies, PartsState, TakesPart}

-- so many bits of the window from one on come off, and what was found and what is left are set by them
pub part_lies : {F S : Type 0} (reading : Reading S) (words : List S) (way : SplitWay)
    (g : Mut F (ℕ × (Bor Bool × Unit {0})) Bool) (before : PartsState F) (start size rest rest_size : ℕ) (last : Bool)
    (f' : F) → before.done ≡ false
    → length (piece (piece (memory reading words) before.place before.len) before.from before.count) ≡ before.count
    → PartsBy way g (piece (piece (memory reading words) before.place before.len) before.from before.count) before.callee
    start size rest rest_size last f' → start + size ≤ before.count → rest + rest_size ≤ before.count
    → PartLies reading words way g before
    (piece (piece (memory reading words) before.place before.len) (before.from + start) size) (record before {
      from = before.from + rest;
      count = rest_size;
      start = before.from + start;
      size = size;
      callee = f';
      done = last;
    })
part_lies reading words way g before start size rest rest_size last f' going many by inside rest_inside =
    let whole = piece (memory reading words) before.place before.len in
    record {
      parts = record {
        going = going;
        asked = by.asked;
        within = by.within;
        asks = by.asks;
        part_is = sym (piece_piece whole before.from before.count start size inside)
            ∙ rw (by.start_is, by.size_is) refl;
        rest_is = sym (piece_piece whole before.from before.count rest rest_size rest_inside)
            ∙ rw (by.rest_is, by.rest_size_is) refl;
        done_is = by.last_is;
      };
      start_is = ap (λ k. before.from + k) (by.start_is ∙ ap (λ n. way.start n by.asked) many);
      size_is = by.size_is ∙ ap (λ n. way.size n by.asked) many;
      from_is = ap (λ k. before.from + k) (by.rest_is ∙ ap (λ n. way.rest n by.asked) many);
      count_is = by.rest_size_is ∙ ap (λ n. way.rest_size n by.asked) many;
    }

-- bits that lie in a window, which lies in its words, are so many
pub length-left : {R : Type 0} (reading : Reading R) (words : List R) (head len from count : ℕ) → from + count ≤ len
    → head + len ≤ length words * reading.bits
    → length (piece (piece (memory reading words) head len) from count) ≡ count
length-left reading words head len from count inside fits =
    let all : length (piece (memory reading words) head len) ≡ len =
    length-piece (memory reading words) head len (omega (arith, length-memory reading words)) in
    length-piece (piece (memory reading words) head len) from count (omega arith)

-- how many may come is no matter of what comes off
pub counted_apart : {F S : Type 0} (reading : Reading S) (words : List S) (way : SplitWay)
    (g : Mut F (ℕ × (Bor Bool × Unit {0})) Bool) (before : PartsState F) (most : ℕ) (r : Option (List Bool))
    (after : PartsState F) → TakesPart reading words way g (record before { most = most }) r after
    → TakesPart reading words way g before r (record after { most = before.most })
counted_apart {F} reading words way g before most None after (ended, same) =
    let counted : PartsState F → PartsState F = λ s. record s { most = before.most } in
    (ended, ap counted same)
counted_apart reading words way g before most (Some part) after lies = record {
  parts = lies.parts;
  start_is = lies.start_is;
  size_is = lies.size_is;
  from_is = lies.from_is;
  count_is = lies.count_is;
}

-- what was taken off where a part was found, told of the window that shows it
pub taken_by : {R : Type 0} (takes : Option (List Bool) → Type 0) (found : Bool) (reading : Reading R)
    (words shown : List R) (at n head len start size : ℕ) (bits : List Bool) → found ≡ true
    → bits ≡ piece (memory reading shown) at n → shown ≡ words → at ≡ head + start → n ≡ size → start + size ≤ len
    → takes (cond found (Some (piece (piece (memory reading words) head len) start size)) None) → takes (Some bits)
taken_by takes found reading words shown at n head len start size bits known is shows there many inside step =
    let part : bits ≡ piece (piece (memory reading words) head len) start size =
    part_bits reading words shown at n head len start size bits is shows there many inside in
    rw part (rw known at step)

-- one more item that calls gave
yields_more : {S A : Type 0} (steps : S → Option A → S → Type 0) (s : S) (xs : List A) (t : S) (x : A) (u : S)
    → Yields steps s xs t → steps t (Some x) u → Yields steps s (xs ++ x ∷ []) u
yields_more steps s [] t x u same step = (u, subst (λ z. steps z (Some x) u) (sym same) step, refl)
yields_more steps s (y ∷ ys) t x u (j, first, rest) step = (j, first, yields_more steps j ys t x u rest step)

-- k parts were passed over
abbrev pub Passed : {S A : Type 0} → (S → Option A → S → Type 0) → S → ℕ → S → Type 0
Passed {S} {A} steps s k t = (xs : List A) × Yields steps s xs t × (length xs ≡ k)

-- and one more, which a search found
pub passed_more : {S A : Type 0} (steps : S → Option A → S → Type 0) (s t u : S) (k : ℕ) (found : Bool) (x : A)
    → Passed steps s k t → found ≡ true → steps t (cond found (Some x) None) u → Passed steps s (k + 1) u
passed_more steps s t u k found x (xs, ran, many) known step =
    (xs ++ x ∷ [], yields_more steps s xs t x u ran (rw known at step), length_push xs x ∙ ap (λ n. n + 1) many)

-- the next one behind k, where a search found it, and where it found none
pub found_nth : {S A : Type 0} (steps : S → Option A → S → Type 0) (s t u : S) (k n : ℕ) (found : Bool) (x : A)
    → Passed steps s k t → steps t (cond found (Some x) None) u → k ≡ n
    → SkipsThenYields steps s n (cond found (Some x) None) u
found_nth steps s t u k n true x (xs, ran, many) step all = (xs, (t, ran, step), many ∙ all)
found_nth steps s t u k n false x (xs, ran, many) step all = (xs, (t, ran, step), omega arith)

pub none_nth : {S A : Type 0} (steps : S → Option A → S → Type 0) (s t u : S) (k n : ℕ) (found : Bool) (x : A)
    → Passed steps s k t → found ≡ false → steps t (cond found (Some x) None) u → k ≤ n
    → SkipsThenYields steps s n None u
none_nth steps s t u k n found x (xs, ran, many) known step less = (xs, (t, ran, rw known at step), omega arith)

-- what the one search keeps and the next one too, both keep
pub kept_on : {V F A B S O X : Type 0} (lender : V → X) (words : V → List S) (first mid last : SplitsMut V F A B S O)
    → KeepsWindow lender words first mid → KeepsWindow lender words mid last → KeepsWindow lender words first last
kept_on lender words first mid last before after = record {
  loan = after.loan ∙ before.loan;
  place_is = after.place_is ∙ before.place_is;
  len_is = after.len_is ∙ before.len_is;
  words_are = after.words_are ∙ before.words_are;
  lender_is = after.lender_is ∙ before.lender_is;
}

-- fewer bits are left than before, unless no part is
pub fewer_on : (n mid left : ℕ) (done : Bool) → mid ≤ n → (mid ≤ left → done ≡ true) → done ≡ false → left ≤ n
fewer_on n mid left done had shorter going = elim (cases_lt left mid) [
  | inl less ↦ omega arith
  | inr more ↦ absurd (true≢false (sym (shorter more) ∙ going))
]
