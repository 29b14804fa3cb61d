-- Masks as sets of positions.
use Rattle.std.specs.Prelude.{◌≡◌, ℕ, ◌^◌, ◌↔◌, List, Contains}
use Rattle.std.specs.Int.{bit_at}

-- the number n has its ones exactly at the positions whose selectors are among these
abbrev pub IsUnionOf : ℕ → List ℕ → Type 0
IsUnionOf n selectors = (p : ℕ) → (bit_at n p ≡ 1) ↔ Contains selectors (2 ^ p)
