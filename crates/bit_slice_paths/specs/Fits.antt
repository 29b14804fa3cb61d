-- How two stretches fit word by word.
use Rattle.std.specs.Prelude.{ℕ, ◌%◌, ◌≤◌, ◌≡◌}
use Rattle.bit_slice_paths.specs.WholeWords.{IsAlike}
use Rattle.bit_slice_paths.specs.declared.two_memories.Fit.{Fit}
use Rattle.bit_slice_paths.specs.declared.two_memories.Fit.TheVariants.{Level}

-- words of b and of c bits are alike and not wide, and stretches from two places on fit: both begin at the same index of
-- a word, or positions go straight
pub record IsFit {S : Type 0} (b : ℕ) (at : ℕ → ℕ) (c : ℕ) (its : ℕ → ℕ) (place other_place : ℕ) (fit : Fit S) : Type 0 where
  pub narrow : b ≤ 64
  pub alike : IsAlike b at c its
  pub level : fit ≡ Level → place % b ≡ other_place % b
