-- What masks hold that are made index by index, or are runs of ones: what the orders' laws rest on.
use Rattle.std.proofs.Common.{◌≡◌, ℕ, zero, suc, ◌+◌, ◌-◌, ◌^◌, ◌<◌, ◌≤◌, ◌↔◌, refl, sym, ◌∙◌, ap, inl, inr, arith}
use Rattle.std.proofs.lemmas.Bool.{cases_lt, cases_eq}
use Rattle.std.specs.Int.{bit_at}
use Rattle.std.proofs.lemmas.Nat.Bits.{bit_at_mask_inside, bit_at_mask_below, bit_at_mask_above}
use Rattle.std.proofs.lemmas.Nat.Bits.{bit_at-pow_same, bit_at-pow_other, bit_at-lt, bit_at_or, bit_at-zero}
use Rattle.bit_addressing_order.specs.BitOrder.{mask_from, IsMaskOf}

-- ---- masks made index by index

-- its ones are the positions of its indices
pub mask_from_is : (at : ℕ → ℕ) (from n p : ℕ)
    → (bit_at (mask_from at from n) p ≡ 1) ↔ ((i : ℕ) × (from ≤ i) × (i < from + n) × (at i ≡ p))
mask_from_is at from zero p = (λ h. absurd (omega (arith, bit_at-zero p)), λ w. absurd (omega arith))
mask_from_is at from (suc n) p =
    let before = mask_from_is at from n p in
    let last = bit_at_or (mask_from at from n) (2 ^ at (from + n)) p in (
      λ h. elim (cases_eq p (at (from + n))) [
        | inl same ↦ (from + n, omega arith, omega arith, sym same)
        | inr other ↦
            let w = before.0 (omega (arith, last, bit_at-pow_other (at (from + n)) p other)) in
            (w.0, w.1, omega arith, w.3)
      ],
      λ w. elim (cases_lt w.0 (from + n)) [
        | inl low ↦ omega (arith, last, before.1 (w.0, w.1, low, w.3), bit_at-lt (2 ^ at (from + n)) p)
        | inr high ↦
            let same : w.0 ≡ from + n = omega arith in
            let here : p ≡ at (from + n) = sym w.3 ∙ ap at same in
            rw here (omega (
              arith,
              bit_at_or (mask_from at from n) (2 ^ at (from + n)) (at (from + n)),
              bit_at-pow_same (at (from + n)),
              bit_at-lt (mask_from at from n) (at (from + n)),
            ))
      ],
    )

pub IsMaskOf-mask_from : (at : ℕ → ℕ) (from upto : ℕ) → from ≤ upto
    → IsMaskOf at from upto (mask_from at from (upto - from))
IsMaskOf-mask_from at from upto le = λ p.
    let e : from + (upto - from) ≡ upto = omega arith in
    let h = mask_from_is at from (upto - from) p in (
      λ one. let w = h.0 one in (w.0, w.1, omega arith, w.3),
      λ w. h.1 (w.0, w.1, omega arith, w.3),
    )

-- ---- masks that are runs of ones

-- a run of ones has the digits from its first up to before its end
pub IsMaskOf-between : (from upto : ℕ) → IsMaskOf (λ i. i) from upto (2 ^ upto - 2 ^ from)
IsMaskOf-between from upto = λ p. (
  λ h. elim (cases_lt p from) [
    | inl below ↦ absurd (omega (arith, bit_at_mask_below from upto p below))
    | inr low ↦ elim (cases_lt p upto) [
      | inl high ↦ (p, low, high, refl)
      | inr above ↦ absurd (omega (arith, bit_at_mask_above from upto p above))
    ]
  ],
  λ w. bit_at_mask_inside from upto p (omega arith) (omega arith),
)

-- a run of ones, counted from the other end
pub IsMaskOf-between_down : (bits from upto : ℕ) → from ≤ upto → upto ≤ bits
    → IsMaskOf (λ i. bits - 1 - i) from upto (2 ^ (bits - from) - 2 ^ (bits - upto))
IsMaskOf-between_down bits from upto le within = λ p. (
  λ h. elim (cases_lt p (bits - upto)) [
    | inl below ↦ absurd (omega (arith, bit_at_mask_below (bits - upto) (bits - from) p below))
    | inr low ↦ elim (cases_lt p (bits - from)) [
      | inl high ↦ (bits - 1 - p, omega arith, omega arith, omega arith)
      | inr above ↦ absurd (omega (arith, bit_at_mask_above (bits - upto) (bits - from) p above))
    ]
  ],
  λ w. bit_at_mask_inside (bits - upto) (bits - from) p (omega arith) (omega arith),
)
