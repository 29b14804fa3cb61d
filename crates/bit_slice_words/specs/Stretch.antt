-- Places from one up to before another at which a test passes nowhere, first or last. No public clause cites this
-- module.
use Rattle.std.specs.Prelude.{◌≡◌, ℕ, ◌<◌, ◌≤◌, Bool, true, false, List, Option, Some, None}
use Rattle.bit_addressing_memory.specs.Memory.{Reading, entry}
use Rattle.bit_slice_words.specs.Found.{is_bit}

-- whether the entry of a memory at a place is this bit
abbrev pub bit_found : {R : Type 0} → Reading R → List R → Bool → ℕ → Bool
bit_found reading words bit p = is_bit bit (entry reading words p)

-- it passes nowhere
abbrev pub Nowhere : (ℕ → Bool) → ℕ → ℕ → Type 0
Nowhere passes from upto = (p : ℕ) → from ≤ p → p < upto → passes p ≡ false

-- it passes at a place, and at none before it
pub record FirstAt (passes : ℕ → Bool) (from upto p : ℕ) : Type 0 where
  pub low : from ≤ p
  pub high : p < upto
  pub here : passes p ≡ true
  pub before : Nowhere passes from p

-- it passes at a place, and at none after it
pub record LastAt (passes : ℕ → Bool) (from upto p : ℕ) : Type 0 where
  pub low : from ≤ p
  pub high : p < upto
  pub here : passes p ≡ true
  pub after : (q : ℕ) → p < q → q < upto → passes q ≡ false

-- the first place at which it passes, or that there is none
abbrev pub IsFirst : (ℕ → Bool) → ℕ → ℕ → Option ℕ → Type 0
IsFirst passes from upto None = Nowhere passes from upto
IsFirst passes from upto (Some p) = FirstAt passes from upto p

-- the last place at which it passes, or that there is none
abbrev pub IsLast : (ℕ → Bool) → ℕ → ℕ → Option ℕ → Type 0
IsLast passes from upto None = Nowhere passes from upto
IsLast passes from upto (Some p) = LastAt passes from upto p
