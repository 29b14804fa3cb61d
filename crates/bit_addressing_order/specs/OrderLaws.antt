-- Why an order is lawful: what the ghost members `lawful` cite.
--
-- For an order's author: `lawful_from_at` (selectors and masks made from the positions), `lawful_by_steps`
-- (positions that go by an odd step).
use Rattle.std.proofs.Common.{◌≡◌, ℕ, ◌+◌, ◌-◌, ◌*◌, ◌%◌, ◌^◌, ◌<◌, refl, sym, inl, inr, arith}
use Rattle.std.proofs.lemmas.Bool.{cases_order}
use Rattle.bit_addressing_order.specs.BitRegister.{IsRegisterSize}
use Rattle.bit_addressing_order.specs.BitOrder.{lower, upper, selectors_from, masks_from, IsLawful}
use Rattle.bit_addressing_order.specs.MaskLaws.{IsMaskOf-mask_from, IsMaskOf-between, IsMaskOf-between_down}
use Rattle.bit_addressing_order.specs.StepLaws.{steps_ordered}

-- an order that has its selectors and masks from its positions is lawful where `at` is one to one
pub lawful_from_at : (bits : ℕ) (at : ℕ → ℕ)
    → ((i : ℕ) → i < bits → at i < bits)
    → ((i j : ℕ) → i < bits → j < bits → at i ≡ at j → i ≡ j)
    → IsLawful bits at (selectors_from at) (masks_from bits at)
lawful_from_at bits at within apart = record {
  in_range = within;
  one_to_one = apart;
  selects = λ i h. refl;
  masks = λ from upto _ le small. IsMaskOf-mask_from at (lower from) (upper bits upto) le;
}

-- indices that are positions
pub lsb0_lawful : (bits : ℕ)
    → IsLawful bits (λ i. i) (selectors_from (λ i. i)) (λ from upto. 2 ^ upper bits upto - 2 ^ lower from)
lsb0_lawful bits = record {
  in_range = λ i h. h;
  one_to_one = λ i j hi hj e. e;
  selects = λ i h. refl;
  masks = λ from upto _ le within. IsMaskOf-between (lower from) (upper bits upto);
}

-- positions that are counted from the other end
pub msb0_lawful : (bits : ℕ)
    → IsLawful bits (λ i. bits - 1 - i) (selectors_from (λ i. bits - 1 - i))
    (λ from upto. 2 ^ (bits - lower from) - 2 ^ (bits - upper bits upto))
msb0_lawful bits = record {
  in_range = λ i h. omega arith;
  one_to_one = λ i j hi hj e. omega arith;
  selects = λ i h. refl;
  masks = λ from upto _ le within. IsMaskOf-between_down bits (lower from) (upper bits upto) le within;
}

-- an order that goes by an odd step, from any start and round the word, is lawful
pub lawful_by_steps : (bits step start : ℕ) → IsRegisterSize bits → step % 2 ≡ 1
    → IsLawful bits (λ i. (step * i + start) % bits) (selectors_from (λ i. (step * i + start) % bits))
    (masks_from bits (λ i. (step * i + start) % bits))
lawful_by_steps bits step start size odd = lawful_from_at bits (λ i. (step * i + start) % bits)
    (λ i within. omega arith)
    (λ i j hi hj same. elim (cases_order i j) [
      | inl equal ↦ equal
      | inr (inl low) ↦ absurd (steps_ordered bits step start i j size odd low hj same)
      | inr (inr high) ↦ absurd (steps_ordered bits step start j i size odd high hi (sym same))
    ])
