-- A mask as a loop makes it, and what an order's law gives.
use Rattle.std.proofs.Common.{◌≡◌, ℕ, suc, ◌+◌, ◌-◌, ◌^◌, ◌≤◌, Option, bit_and, bit_or, refl, sym, ◌∙◌, ap, inl, inr}
use Rattle.std.proofs.Common.{arith}
use Rattle.std.proofs.lemmas.Bool.{cases_eq}
use Rattle.std.specs.Int.{bit_at}
use Rattle.std.proofs.lemmas.Nat.Bits.{bit_at-lt, bit_at_and, bit_at-zero, same_from_bits}
use Rattle.bit_addressing_order.specs.BitOrder.{lower, upper, mask_from, IsIndexBound, IsLawful}

-- no index makes the empty mask
pub mask_from_none : (at : ℕ → ℕ) (from : ℕ) → mask_from at from (from - from) ≡ 0
mask_from_none at from = let none : from - from ≡ 0 = omega arith in rw none refl

-- a further index adds its position
pub mask_from_more : (at : ℕ → ℕ) (from i : ℕ) → from ≤ i
    → mask_from at from (i + 1 - from) ≡ bit_or (mask_from at from (i - from)) (2 ^ at i)
mask_from_more at from i le =
    let more : i + 1 - from ≡ suc (i - from) = omega arith in
    let last : from + (i - from) ≡ i = omega arith in
    rw more (ap (λ k. bit_or (mask_from at from (i - from)) (2 ^ at k)) last)

pub ruleset made_masks = (mask_from_none, mask_from_more)

-- the masks of two ranges of indices that don't meet have no digit in common
pub masks_apart : (bits : ℕ) (at select : ℕ → ℕ) (mask : Option ℕ → Option ℕ → ℕ)
    (from upto later_from later_upto : Option ℕ)
    → IsLawful bits at select mask
    → IsIndexBound bits from → lower from ≤ upper bits upto → upper bits upto ≤ bits
    → IsIndexBound bits later_from → lower later_from ≤ upper bits later_upto → upper bits later_upto ≤ bits
    → upper bits upto ≤ lower later_from
    → bit_and (mask from upto) (mask later_from later_upto) ≡ 0
masks_apart bits at select mask from upto later_from later_upto law bound order within later_bound later_order
    later_within apart =
    same_from_bits _ 0 (λ p.
    let first = law.masks from upto bound order within p in
    let second = law.masks later_from later_upto later_bound later_order later_within p in
    let both = bit_at_and (mask from upto) (mask later_from later_upto) p in
    let none = bit_at-zero p in
    let bit = bit_at-lt (mask from upto) p in
    let later_bit = bit_at-lt (mask later_from later_upto) p in
    elim (cases_eq (bit_at (mask from upto) p) 1) [
      | inl one ↦ elim (cases_eq (bit_at (mask later_from later_upto) p) 1) [
        | inl later_one ↦
            let i = first.0 one in
            let j = second.0 later_one in
            let same : i.0 ≡ j.0 = law.one_to_one i.0 j.0 (omega arith) (omega arith) (i.3 ∙ sym j.3) in
            absurd (omega arith)
        | inr other ↦ omega (arith, both, none, later_bit)
      ]
      | inr other ↦ omega (arith, both, none, bit)
    ])
