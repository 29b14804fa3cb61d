-- What a bit order is, over numbers alone.
--
-- An order at a register of `bits` bits is three functions: `at i` is the position of index i,
-- `select i` the number of its selector, `mask from upto` the number of the mask of the indices from
-- one bound up to another, each bound present or absent.
use Rattle.std.specs.Prelude.{◌≡◌, ℕ, zero, suc, bit_or, ◌+◌, ◌-◌, ◌^◌, ◌<◌, ◌≤◌, ◌↔◌, Option, Some, None}
use Rattle.std.specs.Int.{bit_at}

-- the first index of a range: an absent bound is 0
abbrev pub lower : Option ℕ → ℕ
lower None = 0
lower (Some from) = from

-- the end of a range of indices: an absent bound is the number of bits
abbrev pub upper : ℕ → Option ℕ → ℕ
upper bits None = bits
upper bits (Some upto) = upto

-- the number n has a 1 at position p and nowhere else
abbrev pub IsOneBit : ℕ → ℕ → Type 0
IsOneBit n p = n ≡ 2 ^ p

-- the number n has exactly one 1, at a position below `bits`
abbrev pub IsSelector : ℕ → ℕ → Type 0
IsSelector bits n = (p : ℕ) × (p < bits) × IsOneBit n p

-- the number n has its ones exactly at the positions of the indices i with from ≤ i < upto
abbrev pub IsMaskOf : (ℕ → ℕ) → ℕ → ℕ → ℕ → Type 0
IsMaskOf at from upto n =
    (p : ℕ) → (bit_at n p ≡ 1) ↔ ((i : ℕ) × (from ≤ i) × (i < upto) × (at i ≡ p))

-- the union of the selectors of n indices, from the index `from` on
abbrev pub mask_from : (ℕ → ℕ) → ℕ → ℕ → ℕ
mask_from at from zero = 0
mask_from at from (suc n) = bit_or (mask_from at from n) (2 ^ at (from + n))

-- the selectors that an order has from its positions alone
abbrev pub selectors_from : (ℕ → ℕ) → ℕ → ℕ
selectors_from at i = 2 ^ at i

-- the masks that an order has from its positions alone, at so many bits
abbrev pub masks_from : ℕ → (ℕ → ℕ) → Option ℕ → Option ℕ → ℕ
masks_from bits at from upto = mask_from at (lower from) (upper bits upto - lower from)

-- a first bound that is there is an index
abbrev pub IsIndexBound : ℕ → Option ℕ → Type 0
IsIndexBound bits None = Unit {0}
IsIndexBound bits (Some from) = from < bits

-- the order is lawful at registers of so many bits: `at` is one to one from the indices onto the
-- positions, `select i` has the digit `at i` alone, and each mask has exactly the digits of its indices
pub record IsLawful (bits : ℕ) (at select : ℕ → ℕ) (mask : Option ℕ → Option ℕ → ℕ) : Type 0 where
  pub in_range : (i : ℕ) → i < bits → at i < bits
  pub one_to_one : (i j : ℕ) → i < bits → j < bits → at i ≡ at j → i ≡ j
  pub selects : (i : ℕ) → i < bits → IsOneBit (select i) (at i)
  pub masks : (from upto : Option ℕ) → IsIndexBound bits from → lower from ≤ upper bits upto → upper bits upto ≤ bits
      → IsMaskOf at (lower from) (upper bits upto) (mask from upto)
