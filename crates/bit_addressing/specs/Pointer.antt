-- Pointers as whole numbers: a pointer is a word number, which may be below 0, and the index of a bit.
use Rattle.std.specs.Prelude.{ℕ, ℤ, ◌≡◌, ◌+◌, ◌*◌, ◌^◌, ◌<◌, ◌≤◌, ◌+ℤ◌, ◌*ℤ◌, ◌<ℤ◌, ◌≤ℤ◌}
use Rattle.std.specs.Prelude.{pos, neg_ℤ}
use Rattle.std.specs.Int.{w64, int_wrap}
use Rattle.std.specs.Int.RustNames.{unsigned_abs}
use Rattle.bit_addressing_order.specs.BitIdx.{IsOffset}

-- what a pointer is seen as: the number of its word, and the index of its bit there
pub record Pointer : Type 0 where
  pub word : ℤ
  pub bit : ℕ

-- the place of a pointer as one number, where a word has b bits: word times b, and the bit
abbrev pub whole_place : ℕ → Pointer → ℤ
whole_place b p = (p.word *ℤ pos b) +ℤ pos p.bit

-- the place z lies in a word whose number an `isize` holds
pub record StaysIn (b : ℕ) (z : ℤ) : Type 0 where
  pub from : neg_ℤ (pos (2 ^ 63 * b)) ≤ℤ z
  pub upto : z <ℤ pos (2 ^ 63 * b)

-- `to` is `by` bits on from `from`, so many whole words and the rest; the word number is wrapped into `isize`
pub record WrapsTo (b : ℕ) (from : Pointer) (by : ℤ) (to : Pointer) : Type 0 where
  pub words : ℤ
  pub offset : IsOffset b from.bit by words to.bit
  pub wrapped : to.word ≡ int_wrap w64 (from.word +ℤ words)

-- the place of a pointer into a memory, whose word number is not below 0
abbrev pub memory_place : ℕ → Pointer → ℕ
memory_place b p = unsigned_abs p.word * b + p.bit

-- the n places from the pointer's on, if any, lie in a memory of so many words
pub record LiesIn (b : ℕ) (p : Pointer) (n words : ℕ) : Type 0 where
  pub from : 0 < n → pos 0 ≤ℤ p.word
  pub upto : 0 < n → memory_place b p + n ≤ words * b
