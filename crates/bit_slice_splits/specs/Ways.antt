-- How a list of bits is split by a predicate.
--
-- Which indices are tried, and what comes off: `SplitWay`, and `from_front`, `from_back`, `inclusive_front`,
-- `inclusive_back`. What the predicate is handed and answers: `Asked`, `Asks`, `AnswersBit`. A part that comes off:
-- `Parts`, `Ends`, and where it lies, `PartsFrom`, `EndsFrom`; `GivesPart`, and of so many at most `CountsDown`,
-- `PartsUpTo`. What an iterator has left: `SplitLeft`, `SplitNLeft`; how many parts of it come at most: `parts_at_most`,
-- `most_left`, and as the bounds of a `size_hint` `bounds_up_to`.
use Rattle.std.proofs.Common.{◌≡◌, ℕ, ◌+◌, ◌-◌, ◌%◌, ◌≤◌, Bool, true, false, cond, List, length, get_or, nat_eq}
use Rattle.std.proofs.Common.{nat_lt, Bor, Option, None, Some, ◌<◌, max, min}
use Rattle.std.specs.Fn.{Called, Mut}
use Rattle.std.specs.Bool.{MatchBool}
use Rattle.std.specs.Option.{MatchOption}
use Rattle.std.specs.List.{FoldsTo, range_with_len}
use Rattle.bit_addressing_memory.specs.Memory.{piece}

-- a way to take a part off one end of a list of n bits: how many indices are tried at most, and which one as number k;
-- where the predicate answered false m times, and then true or to no more, where the part begins and how long it is,
-- the same of what is left, and whether the part is the last one
pub record SplitWay : Type 0 where
  pub tries : ℕ → ℕ
  pub index : ℕ → ℕ → ℕ
  pub start : ℕ → ℕ → ℕ
  pub size : ℕ → ℕ → ℕ
  pub rest : ℕ → ℕ → ℕ
  pub rest_size : ℕ → ℕ → ℕ
  pub last : ℕ → ℕ → Bool

-- at the first place; the bit there goes
abbrev pub from_front : SplitWay
from_front = record {
  tries = λ n. n;
  index = λ n k. k;
  start = λ n m. 0;
  size = λ n m. m;
  rest = λ n m. cond (nat_eq m n) n (m + 1);
  rest_size = λ n m. n - (m + 1);
  last = λ n m. nat_eq m n;
}

-- at the last place, tried descending; the bit there goes
abbrev pub from_back : SplitWay
from_back = record {
  tries = λ n. n;
  index = λ n k. n - (k + 1);
  start = λ n m. n - m;
  size = λ n m. m;
  rest = λ n m. 0;
  rest_size = λ n m. n - (m + 1);
  last = λ n m. nat_eq m n;
}

-- behind the first place; the bit there stays with the part
abbrev pub inclusive_front : SplitWay
inclusive_front = record {
  tries = λ n. n;
  index = λ n k. k;
  start = λ n m. 0;
  size = λ n m. cond (nat_eq m n) n (m + 1);
  rest = λ n m. cond (nat_eq m n) n (m + 1);
  rest_size = λ n m. n - (m + 1);
  last = λ n m. nat_eq (n - (m + 1)) 0;
}

-- behind the last place before the last bit, tried descending; the bit there stays with what is left
abbrev pub inclusive_back : SplitWay
inclusive_back = record {
  tries = λ n. n - 1;
  index = λ n k. n - (k + 2);
  start = λ n m. n - 1 - m;
  size = λ n m. n - (n - 1 - m);
  rest = λ n m. 0;
  rest_size = λ n m. n - 1 - m;
  last = λ n m. nat_eq (n - 1 - m) 0;
}

-- the predicate, asked of index i and a bit, answers r and becomes f'
abbrev pub Asked : {F : Type 0} → Mut F (ℕ × (Bor Bool × Unit {0})) Bool → F → ℕ → Bool → Bool → F → Type 0
Asked g f i bit r f' = (b : Bor Bool) × (b.now ≡ bit) × Called g f (i, (b, tt)) r f'

-- each answer of the predicate is the bit that it was handed
abbrev pub AnswersBit : {F : Type 0} → Mut F (ℕ × (Bor Bool × Unit {0})) Bool → Type 0
AnswersBit {F} g = (p : F) (i : ℕ) (bit r : Bool) (q : F) → Asked g p i bit r q → r ≡ bit

-- the predicate was asked of each index in turn, with the bit there: it answered false m times, and then true, unless
-- all that are tried were asked
pub record Asks {F : Type 0} (way : SplitWay) (g : Mut F (ℕ × (Bor Bool × Unit {0})) Bool) (bits : List Bool) (f : F)
    (m : ℕ) (f' : F) : Type 0 where
  pub mid : F
  pub before : FoldsTo (λ p k q. Asked g p (way.index (length bits) k)
      (get_or bits (way.index (length bits) k) false) false q) f (range_with_len 0 m) mid
  pub there : MatchBool (nat_lt m (way.tries (length bits)))
      (Asked g mid (way.index (length bits) m) (get_or bits (way.index (length bits) m) false) true f') (f' ≡ mid)

-- an iterator over the parts: the bits not yet split, the index of the first of them in its word, the predicate, and
-- whether no part is left
pub record SplitLeft (F : Type 0) : Type 0 where
  pub bits : List Bool
  pub head : ℕ
  pub callee : F
  pub done : Bool

-- how many parts come at most of n bits: where the bits at the cuts stay with parts, one for each bit, and one where
-- there is none; else one more than there are bits
abbrev pub parts_at_most : Bool → ℕ → ℕ
parts_at_most inclusive n = cond inclusive (max 1 n) (n + 1)

-- how many come at most of what is left
abbrev pub most_left : {F : Type 0} → Bool → SplitLeft F → ℕ
most_left inclusive s = cond s.done 0 (parts_at_most inclusive (length s.bits))

-- the bounds of a `size_hint` where at most so many items come, and at least one unless that is none
abbrev pub bounds_up_to : ℕ → ℕ × Option ℕ
bounds_up_to most = (min 1 most, Some most)

-- a part comes off one end of what is left
pub record Parts {F : Type 0} (way : SplitWay) (g : Mut F (ℕ × (Bor Bool × Unit {0})) Bool) (before : SplitLeft F)
    (part : List Bool) (after : SplitLeft F) : Type 0 where
  pub going : before.done ≡ false
  pub asked : ℕ
  pub within : asked ≤ way.tries (length before.bits)
  pub asks : Asks way g before.bits before.callee asked after.callee
  pub part_is : part
      ≡ piece before.bits (way.start (length before.bits) asked) (way.size (length before.bits) asked)
  pub rest_is : after.bits
      ≡ piece before.bits (way.rest (length before.bits) asked) (way.rest_size (length before.bits) asked)
  pub done_is : after.done ≡ way.last (length before.bits) asked

-- all bits that are left come as the last part, without the predicate
pub record Ends {F : Type 0} (before : SplitLeft F) (part : List Bool) (after : SplitLeft F) : Type 0 where
  pub going : before.done ≡ false
  pub part_is : part ≡ before.bits
  pub bits_are : after.bits ≡ before.bits
  pub callee_is : after.callee ≡ before.callee
  pub done_is : after.done ≡ true

-- a part comes off one end of what is left, and it and what is left then lie where the way says: `head` is the index
-- of the part's first bit in its word, of b bits
pub record PartsFrom {F : Type 0} (b : ℕ) (way : SplitWay) (g : Mut F (ℕ × (Bor Bool × Unit {0})) Bool)
    (before : SplitLeft F) (part : List Bool) (head : ℕ) (after : SplitLeft F) : Type 0 where
  pub parts : Parts way g before part after
  pub head_is : head ≡ (before.head + way.start (length before.bits) parts.asked) % b
  pub rest_head_is : after.head ≡ (before.head + way.rest (length before.bits) parts.asked) % b

-- all bits that are left come as the last part, from where they lie
pub record EndsFrom {F : Type 0} (before : SplitLeft F) (part : List Bool) (head : ℕ) (after : SplitLeft F) : Type 0 where
  pub ends : Ends before part after
  pub head_is : head ≡ before.head
  pub rest_head_is : after.head ≡ before.head

-- what a call gives that gives a part so where one is left, and else nothing and stays
abbrev pub GivesPart : {F A : Type 0} → (A → List Bool) → (A → ℕ)
    → (SplitLeft F → List Bool → ℕ → SplitLeft F → Type 0) → SplitLeft F → Option A → SplitLeft F → Type 0
GivesPart view head how before r after =
    MatchOption r ((before.done ≡ true) × (after ≡ before)) (λ part. how before (view part) (head part) after)

-- an iterator over so many parts at most: the parts, and how many may come
pub record SplitNLeft (F : Type 0) : Type 0 where
  pub parts : SplitLeft F
  pub count : ℕ

-- so many at most: while more than one may come, the next one does; the last that may come is what is left
pub record CountsDown {S R : Type 0} (count : S → ℕ) (next rest : S → Option R → S → Type 0) (before : S) (r : Option R)
    (after : S) : Type 0 where
  pub none : count before ≡ 0 → (r ≡ None) × (after ≡ before)
  pub one : count before ≡ 1 → (count after ≡ 0) × rest before r after
  pub more : 1 < count before → (count after + 1 ≡ count before) × next before r after

-- while more than one part may come, the next one does; the last that may come has all bits that are left
abbrev pub PartsUpTo : {F A : Type 0} → (A → List Bool) → (A → ℕ) → ℕ → SplitWay
    → Mut F (ℕ × (Bor Bool × Unit {0})) Bool → SplitNLeft F → Option A → SplitNLeft F → Type 0
PartsUpTo view head b way g =
    CountsDown (λ left. left.count)
    (λ before r after. GivesPart view head (PartsFrom b way g) before.parts r after.parts)
    (λ before r after. GivesPart view head EndsFrom before.parts r after.parts)
