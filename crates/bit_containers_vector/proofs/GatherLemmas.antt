-- Bits of an iterator gathered in a number, and added behind those of a vector.
use Rattle.std.proofs.Common.{◌≡◌, ℕ, ◌+◌, ◌%◌, ◌^◌, ◌<◌, ◌≤◌, Bool, false, List, [], ◌∷◌, ◌++◌, length, refl, sym, ap}
use Rattle.std.proofs.Common.{◌∙◌, inl, inr, arith, Option, append-nil, append_assoc, ◌*◌}
use Rattle.std.proofs.lemmas.Bool.{cases_lt}
use Rattle.std.proofs.lemmas.List.{ext_get_or, get_or_append_left, get_or_push, length_push}
use Rattle.bit_addressing_memory.proofs.OrderCallerLemmas.{digit_at-with_digit_same, digit_at-with_digit_other}
use Rattle.bit_addressing_memory.specs.Bits.{digit_at, with_digit}
use Rattle.bit_addressing_memory.specs.Memory.{Reading, memory, piece, reading_in}
use Rattle.bit_addressing_memory.proofs.EntryLemmas.{entry_read}
use Rattle.bit_addressing_memory.proofs.WindowLemmas.{length-window, window_bit}
use Rattle.std.specs.Iterator.{Yields}
use Rattle.bit_containers_vector.specs.Gathered.{Gathers}
use Rattle.bit_containers_vector.specs.Grown.{Extends}
use Rattle.bit_containers_vector.specs.Vector.{vec_bits, IsAsBefore}
use Rattle.bit_containers_vector.specs.declared.vector.BitVec.{BitVec}
use Rattle.bit_containers_vector.proofs.ExtendLemmas.{extends_none, extends_more, extends_same}

pub gathers_none : (number : ℕ) → Gathers number 0 []
gathers_none number = record { size = refl; same = λ i low. absurd (omega arith) }

-- one more
pub gathers_more : (number next n : ℕ) (xs : List Bool) (bit : Bool)
    → next % 2 ^ 64 ≡ with_digit (number % 2 ^ 64) n bit
    → Gathers number n xs → Gathers next (n + 1) (xs ++ bit ∷ [])
gathers_more number next n xs bit is had =
    let size = had.size in
    record {
      size = length_push xs bit ∙ omega (arith, size);
      same = λ i low. ap (λ m. digit_at m i) is ∙ elim (cases_lt i n) [
        | inl before ↦
            digit_at-with_digit_other (number % 2 ^ 64) n bit i (omega arith)
            ∙ had.same i before
            ∙ sym (get_or_append_left xs (bit ∷ []) false i (omega (arith, size)))
        | inr past ↦
            let here : i ≡ n = omega arith in
            ap (digit_at (with_digit (number % 2 ^ 64) n bit)) here
            ∙ digit_at-with_digit_same (number % 2 ^ 64) n bit
            ∙ sym (get_or_push xs bit false i (omega (arith, size)))
      ];
    }

-- as the first bits of a word
pub gathers_piece : (number n : ℕ) (xs : List Bool) → n ≤ 64 → Gathers number n xs
    → piece (memory (reading_in 64 (λ x. x % 2 ^ 64) (λ i. i)) (number ∷ [])) 0 n ≡ xs
gathers_piece number n xs few had =
    let reading : Reading ℕ = reading_in 64 (λ x. x % 2 ^ 64) (λ i. i) in
    let words : List ℕ = number ∷ [] in
    let size = had.size in
    let all = length-window reading words 0 n (omega arith) in
    ext_get_or false (piece (memory reading words) 0 n) xs (omega (arith, size, all)) (λ i low.
    window_bit reading words 0 n i (omega arith) (omega (arith, all))
    ∙ sym (entry_read reading words 0 i number (omega (arith, all)) (omega arith) refl)
    ∙ had.same i (omega (arith, all)))

-- what the calls of an iterator gave first, they gave
pub yields_first : {S A : Type 0} (steps : S → Option A → S → Type 0) (s t : S) (xs ys : List A)
    → Yields steps s (xs ++ ys) t → (m : S) × Yields steps s xs m
yields_first steps s t [] ys all = (s, refl)
yields_first steps s t (x ∷ xs) ys (next, step, rest) =
    let first = yields_first steps next t xs ys rest in
    (first.0, (next, step, first.1))

module _ {T O : Type 0} {g : _} (reading : Reading T) where
  -- new is old with the first of some items behind its own bits, and a number has the others
  pub record Gathering (old new : BitVec T O g) (number n : ℕ) (items : List Bool) : Type 0 where
    pub added : List Bool
    pub left : List Bool
    pub all : items ≡ added ++ left
    pub has : Gathers number n left
    pub grown : Extends reading old new added

  pub gathering_none : (v : BitVec T O g) (number : ℕ) → Gathering v v number 0 []
  gathering_none v number = record {
    added = [];
    left = [];
    all = refl;
    has = gathers_none number;
    grown = extends_none reading v;
  }

  pub gathering_more : (old new : BitVec T O g) (number next n : ℕ) (items : List Bool) (bit : Bool)
      → next % 2 ^ 64 ≡ with_digit (number % 2 ^ 64) n bit → Gathering old new number n items
      → Gathering old new next (n + 1) (items ++ bit ∷ [])
  gathering_more old new number next n items bit is had = record {
    added = had.added;
    left = had.left ++ bit ∷ [];
    all = ap (λ xs. xs ++ bit ∷ []) had.all ∙ append_assoc had.added had.left (bit ∷ []);
    has = gathers_more number next n had.left bit is had.has;
    grown = had.grown;
  }

  -- what the number has is added too
  pub gathering_added : (old mid new : BitVec T O g) (number n : ℕ) (items : List Bool) → 0 < reading.bits
      → old.head + old.len ≤ length old.words.items * reading.bits
      → mid.head + mid.len ≤ length mid.words.items * reading.bits
      → new.head + new.len ≤ length new.words.items * reading.bits → Gathering old mid number n items
      → ((xs : List Bool) → Gathers number n xs → Extends reading mid new xs) → Extends reading old new items
  gathering_added old mid new number n items some fits fits_mid fits_new had more =
      rw had.all
      (extends_more reading old mid new had.added had.left some fits fits_mid fits_new had.grown
      (more had.left had.has))

  pub gathering_anew : (old new : BitVec T O g) (number : ℕ) (items : List Bool) → Extends reading old new items
      → Gathering old new number 0 items
  gathering_anew old new number items grown = record {
    added = items;
    left = [];
    all = sym (append-nil items);
    has = gathers_none number;
    grown = grown;
  }

  -- where it is not, the list has the first of the items
  pub gathering_kept : (old mid new : BitVec T O g) (number n : ℕ) (items : List Bool) → 0 < reading.bits
      → old.head + old.len ≤ length old.words.items * reading.bits
      → mid.head + mid.len ≤ length mid.words.items * reading.bits
      → new.head + new.len ≤ length new.words.items * reading.bits → Gathering old mid number n items
      → IsAsBefore reading mid new → (xs : List Bool) × Extends reading old new xs
  gathering_kept old mid new number n items some fits fits_mid fits_new had before = (
    had.added ++ [],
    extends_more reading old mid new had.added [] some fits fits_mid fits_new had.grown
        (extends_same reading mid new before),
  )

  -- and these are what the calls gave first
  pub gathering_refused : {S : Type 0} (steps : S → Option Bool → S → Type 0) (s t : S) (old mid new : BitVec T O g)
      (number n : ℕ) (items : List Bool) → Yields steps s items t → Gathering old mid number n items
      → IsAsBefore reading mid new
      → (xs : List Bool) × (rest : S) × Yields steps s xs rest × (vec_bits reading new ≡ vec_bits reading old ++ xs)
  gathering_refused steps s t old mid new number n items run had before =
      let first = yields_first steps s t had.added had.left (rw had.all at run) in
      (had.added, first.0, first.1, before.bits ∙ had.grown.bits)
