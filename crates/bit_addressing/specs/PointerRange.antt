-- Ranges of pointers, and the pointers that they give.
use Rattle.std.specs.Prelude.{ℕ, ℤ, ◌-◌, ◌/◌, ◌%◌, ◌^◌, ◌<◌, [], ◌∷◌, ◌+ℤ◌, ◌-ℤ◌, ◌≤ℤ◌}
use Rattle.std.specs.Prelude.{zero, suc, pos, negsuc, List}
use Rattle.std.specs.Int.{w64}
use Rattle.std.specs.Int.RustNames.{FitsSigned, unsigned_abs}
use Rattle.bit_addressing.specs.Pointer.{Pointer, whole_place}

-- what a range is seen as: its first pointer, and how many bits it covers
pub record PointerRange : Type 0 where
  pub start : Pointer
  pub len : ℕ

-- the pointer whose place is z, where a word has b bits: the word number is rounded down
abbrev pub pointer_at : ℕ → ℤ → Pointer
pointer_at b (pos n) = record { word = pos (n / b); bit = n % b }
pointer_at b (negsuc n) = record { word = negsuc (n / b); bit = b - 1 - n % b }

-- how many bits the second pointer lies on from the first, which is not past it
abbrev pub bits_between : ℕ → Pointer → Pointer → ℕ
bits_between b from to = unsigned_abs (whole_place b to -ℤ whole_place b from)

-- the pointers from the first one up to before the second are a range, whose bits an `isize` counts
pub record IsRange (b : ℕ) (from to : Pointer) : Type 0 where
  pub word : FitsSigned w64 from.word
  pub bit : from.bit < b
  pub end_word : FitsSigned w64 to.word
  pub end_bit : to.bit < b
  pub order : whole_place b from ≤ℤ whole_place b to
  pub few : bits_between b from to < 2 ^ 63

-- the pointer before which a range ends
abbrev pub end_of : ℕ → PointerRange → Pointer
end_of b range = pointer_at b (whole_place b range.start +ℤ pos range.len)

-- the pointers to the n bits from place z on
unfoldable pub pointers : ℕ → ℤ → ℕ → List Pointer
pointers b z zero = []
pointers b z (suc n) = pointer_at b z ∷ pointers b (z +ℤ pos 1) n

-- the pointers that a range gives, in order
abbrev pub pointers_of : ℕ → PointerRange → List Pointer
pointers_of b range = pointers b (whole_place b range.start) range.len
