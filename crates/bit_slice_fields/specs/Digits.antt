-- The digits of a number and the bits of a window, one by one. No public clause cites this module.
use Rattle.std.specs.Prelude.{◌≡◌, ℕ, ◌<◌, ◌≤◌, ◌^◌, Bool, false, List, length, slice_index_or}
use Rattle.std.specs.Int.{bit_at}
use Rattle.bit_addressing_memory.specs.Bits.{digit_at}
use Rattle.bit_slice_fields.specs.Number.{weight}
use Rattle.bit_slice_fields.specs.declared.digits.Cut.{Cut}

-- the weight of bit i of n, at words of b bits
abbrev pub cut_weight : Cut → ℕ → ℕ → ℕ → ℕ
cut_weight cut b n i = weight cut.low cut.le b cut.head n i

-- the number has as many digits as there are bits, and each bit is its digit of that weight
pub record HasDigits (weighs : ℕ → ℕ) (bits : List Bool) (number : ℕ) : Type 0 where
  pub digits : (i : ℕ) → i < length bits → digit_at number (weighs i) ≡ slice_index_or bits i false
  pub small : number < 2 ^ length bits

-- the bits below i are digits of d at their weights, and the weights of the others are free
pub record Gathered (weighs : ℕ → ℕ) (bits : List Bool) (i d : ℕ) : Type 0 where
  pub below : (k : ℕ) → k < i → digit_at d (weighs k) ≡ slice_index_or bits k false
  pub above : (k : ℕ) → i ≤ k → k < length bits → bit_at d (weighs k) ≡ 0
  pub small : d < 2 ^ length bits
