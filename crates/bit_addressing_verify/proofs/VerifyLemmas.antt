-- What the steps of `verify_for_type` show.
use Rattle.std.proofs.Common.{◌≡◌, ℕ, suc, ◌+◌, ◌-◌, ◌^◌, ◌<◌, ◌≤◌, ◌↔◌, inl, inr, Option, Some, None, bit_and}
use Rattle.std.proofs.Common.{bit_or, sym, ◌∙◌, ap, subst, arith}
use Rattle.std.specs.Int.{bit_at}
use Rattle.std.proofs.lemmas.Nat.Bits.{bit_at-lt, same_from_bits}
use Rattle.bit_addressing_order.specs.BitOrder.{IsIndexBound, lower, upper, mask_from, IsMaskOf, IsLawful}
use Rattle.std.proofs.lemmas.Bool.{cases_lt, cases_eq, cases_order}
use borrow.Author.Count.{below_more}
use Rattle.bit_addressing_verify.specs.declared.fault.OrderFault.{OrderFault}
use Rattle.bit_addressing_verify.specs.declared.fault.OrderFault.TheVariants.{Selector, Repeated, Mask}
use Rattle.bit_addressing_verify.specs.OrderFault.{IsGoodIndex, AreGoodIndices, IsGoodMask, IsGoodRow}
use Rattle.bit_addressing_verify.specs.OrderFault.{AreGoodRows, AreGoodEnds, AreGoodStarts}
use Rattle.bit_addressing_verify.specs.OrderFault.{IsFirstFault}
use Rattle.bit_addressing_verify.specs.VerifySteps.{AreWithin, IsIndexFault, IsRowFault, IsPairFault}
use Rattle.bit_addressing_verify.specs.VerifySteps.{IsEndFault, IsStartFault}
use Rattle.bit_addressing_order.proofs.DigitLemmas.{and_selector}
use Rattle.bit_addressing_order.specs.MaskLaws.{IsMaskOf-mask_from, mask_from_is}

-- the position of i is not among those of the indices below
pub new_position : (at : ℕ → ℕ) (i met s : ℕ) → met ≡ mask_from at 0 i → s ≡ 2 ^ at i → bit_and met s ≡ 0
    → (j : ℕ) → j < i → at j ≡ at i → ⊥
new_position at i met s m e none j lt same =
    let off : bit_at met (at i) ≡ 0 = (and_selector met (at i) s e).0 none in
    let on : bit_at (mask_from at 0 i) (at i) ≡ 1 =
    (mask_from_is at 0 i (at i)).1 (j, omega arith, omega arith, same) in
    omega (arith, ap (λ n. bit_at n (at i)) m)

-- the position of i is among those of the indices below
pub old_position : (at : ℕ → ℕ) (i met s : ℕ) → met ≡ mask_from at 0 i → s ≡ 2 ^ at i → (bit_and met s ≡ 0 → ⊥)
    → (j : ℕ) × (j < i) × (at j ≡ at i)
old_position at i met s m e some =
    let on : bit_at met (at i) ≡ 1 =
    let off : bit_at met (at i) ≡ 0 → ⊥ = λ z. some ((and_selector met (at i) s e).1 z) in
    omega (arith, bit_at-lt met (at i)) in
    let w = (mask_from_is at 0 i (at i)).0 (ap (λ n. bit_at n (at i)) (sym m) ∙ on) in
    (w.0, omega arith, w.3)

pub more_met : (at : ℕ → ℕ) (i met s : ℕ) → met ≡ mask_from at 0 i → s ≡ 2 ^ at i
    → bit_or met s ≡ mask_from at 0 (i + 1)
more_met at i met s m e =
    let last : i ≡ 0 + i = omega arith in
    let more : suc i ≡ i + 1 = omega arith in
    rw (m, e) (ap (λ k. bit_or (mask_from at 0 i) (2 ^ at k)) last ∙ ap (mask_from at 0) more)

pub ruleset index_steps = (new_position, old_position, more_met)

-- a fault of one index is the first where the indices below are good
pub first_of_index : {R : Type 0} (bits : ℕ) (at select : ℕ → ℕ) (mask : Option ℕ → Option ℕ → ℕ) (i : ℕ)
    (e : OrderFault R)
    → i < bits → AreGoodIndices at select i → IsIndexFault at select i e → IsFirstFault bits at select mask e
first_of_index bits at select mask i (Selector k) lt good h = rw h.0 (lt, good, h.1)
first_of_index bits at select mask i (Repeated k) lt good h = rw h.0 (lt, good, h.1, h.2)
first_of_index bits at select mask i (Mask f u) lt good h = absurd h

pub good_more : (at select : ℕ → ℕ) (i : ℕ) → AreGoodIndices at select i → IsGoodIndex at select i
    → AreGoodIndices at select (i + 1)
good_more at select i good here = below_more (IsGoodIndex at select) i good here

-- a mask is right exactly where its number is that of the mask made one index at a time
pub mask_number : (at : ℕ → ℕ) (from upto n m : ℕ) → from ≤ upto → m ≡ mask_from at from (upto - from)
    → (n ≡ m) ↔ IsMaskOf at from upto n
mask_number at from upto n m le e =
    let right : IsMaskOf at from upto m = rw e (IsMaskOf-mask_from at from upto le) in (
      λ same. subst (λ k. IsMaskOf at from upto k) (sym same) right,
      λ good. same_from_bits n m (λ k. elim (cases_eq (bit_at n k) 1) [
        | inl one ↦ one ∙ sym ((right k).1 ((good k).0 one))
        | inr other ↦
            let off : bit_at m k ≡ 1 → ⊥ = λ h. other ((good k).1 ((right k).0 h)) in
            elim (cases_eq (bit_at m k) 1) [
              | inl one ↦ absurd (off one)
              | inr zeros ↦ omega (arith, bit_at-lt n k, bit_at-lt m k)
            ]
      ]),
    )

-- the same, of a word that has that number and of the test whether it is the mask made index by index
pub mask_test : (at : ℕ → ℕ) (from upto n m j k : ℕ) (same : Type 0) → from ≤ upto → m ≡ mask_from at from (upto - from)
    → k ≡ j → j ≡ n → same ↔ (k ≡ m) → same ↔ IsMaskOf at from upto n
mask_test at from upto n m j k same le e first second test =
    let exact = mask_number at from upto n m le e in
    let read : k ≡ n = first ∙ second in
    (λ t. exact.0 (sym read ∙ test.0 t), λ good. test.1 (read ∙ exact.1 good))

pub row_more : (bits : ℕ) (at : ℕ → ℕ) (mask : Option ℕ → Option ℕ → ℕ) (f u : ℕ)
    → IsGoodRow bits at mask f u → IsGoodMask bits at mask (Some f) (Some u) → IsGoodRow bits at mask f (u + 1)
row_more bits at mask f u good here = λ v le lt. elim (cases_lt v u) [
  | inl low ↦ good v le low
  | inr high ↦ let same : u ≡ v = omega arith in subst (λ k. IsGoodMask bits at mask (Some f) (Some k)) same here
]

pub rows_more : (bits : ℕ) (at : ℕ → ℕ) (mask : Option ℕ → Option ℕ → ℕ) (f : ℕ)
    → AreGoodRows bits at mask f → IsGoodRow bits at mask f (bits + 1) → AreGoodRows bits at mask (f + 1)
rows_more bits at mask f good here = below_more (λ k. IsGoodRow bits at mask k (bits + 1)) f good here

pub ends_more : (bits : ℕ) (at : ℕ → ℕ) (mask : Option ℕ → Option ℕ → ℕ) (u : ℕ)
    → AreGoodEnds bits at mask u → IsGoodMask bits at mask None (Some u) → AreGoodEnds bits at mask (u + 1)
ends_more bits at mask u good here = below_more (λ k. IsGoodMask bits at mask None (Some k)) u good here

pub starts_more : (bits : ℕ) (at : ℕ → ℕ) (mask : Option ℕ → Option ℕ → ℕ) (f : ℕ)
    → AreGoodStarts bits at mask f → IsGoodMask bits at mask (Some f) None → AreGoodStarts bits at mask (f + 1)
starts_more bits at mask f good here = below_more (λ k. IsGoodMask bits at mask (Some k) None) f good here

pub within_more : (bits : ℕ) (at : ℕ → ℕ) (i : ℕ) → AreWithin bits at i → at i < bits → AreWithin bits at (i + 1)
within_more bits at i good here = below_more (λ k. at k < bits) i good here

pub pair_of_row : {R : Type 0} (bits : ℕ) (at : ℕ → ℕ) (mask : Option ℕ → Option ℕ → ℕ) (f : ℕ) (e : OrderFault R)
    → f < bits → AreGoodRows bits at mask f → IsRowFault bits at mask f e → IsPairFault bits at mask e
pair_of_row bits at mask f (Mask (Some g) (Some u)) lt good h = rw h.0 (lt, h.1, h.2, good, h.3, h.4)
pair_of_row bits at mask f (Mask (Some g) None) lt good h = absurd h
pair_of_row bits at mask f (Mask None u) lt good h = absurd h
pair_of_row bits at mask f (Selector k) lt good h = absurd h
pair_of_row bits at mask f (Repeated k) lt good h = absurd h

any_mask : (bits : ℕ) (at : ℕ → ℕ) (mask : Option ℕ → Option ℕ → ℕ)
    → AreGoodRows bits at mask bits → AreGoodEnds bits at mask (bits + 1) → AreGoodStarts bits at mask bits
    → IsGoodMask bits at mask None None
    → (from upto : Option ℕ) → IsIndexBound bits from → lower from ≤ upper bits upto → upper bits upto ≤ bits
    → IsGoodMask bits at mask from upto
any_mask bits at mask rows ends starts whole None None i le small = whole
any_mask bits at mask rows ends starts whole None (Some u) i le small = ends u (omega arith)
any_mask bits at mask rows ends starts whole (Some f) None i le small = starts f i
any_mask bits at mask rows ends starts whole (Some f) (Some u) i le small = rows f i u le (omega arith)

module _ {R : Type 0} (bits : ℕ) (at select : ℕ → ℕ) (mask : Option ℕ → Option ℕ → ℕ) where
  pub first_of_pair : (e : OrderFault R) → AreGoodIndices at select bits → IsPairFault bits at mask e
      → IsFirstFault bits at select mask e
  first_of_pair (Mask (Some f) (Some u)) good h = (good, h.0, h.1, h.2, h.3, h.4, h.5)
  first_of_pair (Mask (Some f) None) good h = absurd h
  first_of_pair (Mask None u) good h = absurd h
  first_of_pair (Selector k) good h = absurd h
  first_of_pair (Repeated k) good h = absurd h

  pub first_of_end : (e : OrderFault R) → AreGoodIndices at select bits → AreGoodRows bits at mask bits
      → IsEndFault bits at mask e → IsFirstFault bits at select mask e
  first_of_end (Mask None (Some u)) good rows h = (good, rows, h.0, h.1, h.2)
  first_of_end (Mask None None) good rows h = absurd h
  first_of_end (Mask (Some f) u) good rows h = absurd h
  first_of_end (Selector k) good rows h = absurd h
  first_of_end (Repeated k) good rows h = absurd h

  pub first_of_start : (e : OrderFault R) → AreGoodIndices at select bits → AreGoodRows bits at mask bits
      → AreGoodEnds bits at mask (bits + 1) → IsStartFault bits at mask e → IsFirstFault bits at select mask e
  first_of_start (Mask (Some f) None) good rows ends h = (good, rows, ends, h.0, h.1, h.2)
  first_of_start (Mask (Some f) (Some u)) good rows ends h = absurd h
  first_of_start (Mask None u) good rows ends h = absurd h
  first_of_start (Selector k) good rows ends h = absurd h
  first_of_start (Repeated k) good rows ends h = absurd h

  pub not_lawful : (e : OrderFault R) → IsFirstFault bits at select mask e → IsLawful bits at select mask → ⊥
  not_lawful (Selector i) h law = h.2 (law.selects i h.0)
  not_lawful (Repeated i) h law = let w = h.3 in
      let same : w.0 ≡ i = law.one_to_one w.0 i (omega arith) h.0 w.2 in omega (arith, same)
  not_lawful (Mask (Some f) (Some u)) h law = h.6 (law.masks (Some f) (Some u) h.1 h.2 h.3)
  not_lawful (Mask None (Some u)) h law = h.4 (law.masks None (Some u) tt (omega arith) h.2)
  not_lawful (Mask (Some f) None) h law = h.5 (law.masks (Some f) None h.3 (omega arith) (omega arith))
  not_lawful (Mask None None) h law = h.4 (law.masks None None tt (omega arith) (omega arith))

pub lawful_from_checks : (bits : ℕ) (at select : ℕ → ℕ) (mask : Option ℕ → Option ℕ → ℕ)
    → AreWithin bits at bits → AreGoodIndices at select bits → AreGoodRows bits at mask bits
    → AreGoodEnds bits at mask (bits + 1)
    → AreGoodStarts bits at mask bits → IsGoodMask bits at mask None None → IsLawful bits at select mask
lawful_from_checks bits at select mask within good rows ends starts whole = record {
  in_range = within;
  one_to_one = λ i j hi hj e. elim (cases_order i j) [
    | inl same ↦ same
    | inr (inl low) ↦ absurd ((good j hj).1 i low e)
    | inr (inr high) ↦ absurd ((good i hi).1 j high (sym e))
  ];
  selects = λ i h. (good i h).0;
  masks = any_mask bits at mask rows ends starts whole;
}

pub ruleset first_faults = (first_of_pair, first_of_end, first_of_start, not_lawful)

pub ruleset indices_so_far = (first_of_index, good_more, within_more)

pub ruleset masks_so_far = (row_more, rows_more, pair_of_row, ends_more, starts_more)

pub ruleset verdicts = (first_faults, lawful_from_checks)
