-- What an iterator over the bits of a window has left, and what a call takes off: `BitsLeft`, `GivesFirstBit`,
-- `GivesLastBit`.
use Rattle.std.specs.Prelude.{ℕ, ◌≡◌, ◌+◌, ◌%◌, Bool, List, Option}
use Rattle.std.specs.Iterator.{YieldsFirstBy, YieldsLastBy}
use Rattle.std.specs.Option.{MatchOption}

-- the bits that are left, and the index of the first of them in its word
pub record BitsLeft : Type 0 where
  pub bits : List Bool
  pub head : ℕ

-- a call gives the first bit, or nothing where none is left; what is left then begins behind it, in words of b bits
abbrev pub GivesFirstBit : {A : Type 0} → (A → Bool) → ℕ → BitsLeft → Option A → BitsLeft → Type 0
GivesFirstBit bit b before r after =
    YieldsFirstBy bit (λ left. left.bits) before r after
    × MatchOption r (after.head ≡ before.head) (λ _. after.head ≡ (before.head + 1) % b)

-- the same of the last bit: what is left begins where it did
abbrev pub GivesLastBit : {A : Type 0} → (A → Bool) → BitsLeft → Option A → BitsLeft → Type 0
GivesLastBit bit before r after = YieldsLastBy bit (λ left. left.bits) before r after × (after.head ≡ before.head)
