-- What the steps of `verify_for_type` answer. No public clause cites this module.
use Rattle.std.specs.Prelude.{◌≡◌, ℕ, ◌<◌, ◌≤◌, Option, Some, None}
use Rattle.bit_addressing_order.specs.BitOrder.{IsOneBit}
use Rattle.bit_addressing_verify.specs.OrderFault.{IsGoodMask, IsGoodRow, AreGoodRows, AreGoodEnds, AreGoodStarts}
use Rattle.bit_addressing_verify.specs.declared.fault.OrderFault.{OrderFault}
use Rattle.bit_addressing_verify.specs.declared.fault.OrderFault.TheVariants.{Selector, Repeated, Mask}

-- the position of each index below n is one of the register's
abbrev pub AreWithin : ℕ → (ℕ → ℕ) → ℕ → Type 0
AreWithin bits at n = (i : ℕ) → i < n → at i < bits

-- the fault of index i alone, where those below are good
abbrev pub IsIndexFault : {R : Type 0} → (ℕ → ℕ) → (ℕ → ℕ) → ℕ → OrderFault R → Type 0
IsIndexFault at select i (Selector k) = (k ≡ i) × (IsOneBit (select i) (at i) → ⊥)
IsIndexFault at select i (Repeated k) = (k ≡ i) × IsOneBit (select i) (at i) × ((j : ℕ) × (j < i) × (at j ≡ at i))
IsIndexFault at select i (Mask _ _) = ⊥

-- the first fault of the masks from index f up to each end
abbrev pub IsRowFault : {R : Type 0} → ℕ → (ℕ → ℕ) → (Option ℕ → Option ℕ → ℕ) → ℕ → OrderFault R → Type 0
IsRowFault bits at mask f (Mask (Some g) (Some u)) =
    (g ≡ f) × (f ≤ u) × (u ≤ bits) × IsGoodRow bits at mask f u × (IsGoodMask bits at mask (Some f) (Some u) → ⊥)
IsRowFault bits at mask f _ = ⊥

-- the first fault of the masks between two present bounds
abbrev pub IsPairFault : {R : Type 0} → ℕ → (ℕ → ℕ) → (Option ℕ → Option ℕ → ℕ) → OrderFault R → Type 0
IsPairFault bits at mask (Mask (Some f) (Some u)) =
    (f < bits) × (f ≤ u) × (u ≤ bits) × AreGoodRows bits at mask f × IsGoodRow bits at mask f u
    × (IsGoodMask bits at mask (Some f) (Some u) → ⊥)
IsPairFault bits at mask _ = ⊥

-- the first fault of the masks with no first bound
abbrev pub IsEndFault : {R : Type 0} → ℕ → (ℕ → ℕ) → (Option ℕ → Option ℕ → ℕ) → OrderFault R → Type 0
IsEndFault bits at mask (Mask None (Some u)) =
    (u ≤ bits) × AreGoodEnds bits at mask u × (IsGoodMask bits at mask None (Some u) → ⊥)
IsEndFault bits at mask _ = ⊥

-- the first fault of the masks with no second bound
abbrev pub IsStartFault : {R : Type 0} → ℕ → (ℕ → ℕ) → (Option ℕ → Option ℕ → ℕ) → OrderFault R → Type 0
IsStartFault bits at mask (Mask (Some f) None) =
    (f < bits) × AreGoodStarts bits at mask f × (IsGoodMask bits at mask (Some f) None → ⊥)
IsStartFault bits at mask _ = ⊥
