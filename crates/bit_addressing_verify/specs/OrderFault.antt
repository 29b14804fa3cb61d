-- What `verify_for_type` answers: the first law, in a fixed order of tests, that a candidate breaks.
use Rattle.std.specs.Prelude.{◌≡◌, ℕ, ◌+◌, ◌<◌, ◌≤◌, Option, Some, None}
use Rattle.bit_addressing_order.specs.BitOrder.{lower, upper, IsOneBit, IsMaskOf}
use Rattle.bit_addressing_verify.specs.declared.fault.OrderFault.{OrderFault}
use Rattle.bit_addressing_verify.specs.declared.fault.OrderFault.TheVariants.{Selector, Repeated, Mask}

-- the selector of index i has its position alone, and no index below has that position
abbrev pub IsGoodIndex : (ℕ → ℕ) → (ℕ → ℕ) → ℕ → Type 0
IsGoodIndex at select i = IsOneBit (select i) (at i) × ((j : ℕ) → j < i → at j ≡ at i → ⊥)

-- each index below n is good
abbrev pub AreGoodIndices : (ℕ → ℕ) → (ℕ → ℕ) → ℕ → Type 0
AreGoodIndices at select n = (i : ℕ) → i < n → IsGoodIndex at select i

-- the mask between two bounds has exactly the digits of its indices
abbrev pub IsGoodMask : ℕ → (ℕ → ℕ) → (Option ℕ → Option ℕ → ℕ) → Option ℕ → Option ℕ → Type 0
IsGoodMask bits at mask from upto = IsMaskOf at (lower from) (upper bits upto) (mask from upto)

-- the masks from index f up to each end below `upto` are good
abbrev pub IsGoodRow : ℕ → (ℕ → ℕ) → (Option ℕ → Option ℕ → ℕ) → ℕ → ℕ → Type 0
IsGoodRow bits at mask f upto = (u : ℕ) → f ≤ u → u < upto → IsGoodMask bits at mask (Some f) (Some u)

-- the masks from each index below n up to each end are good
abbrev pub AreGoodRows : ℕ → (ℕ → ℕ) → (Option ℕ → Option ℕ → ℕ) → ℕ → Type 0
AreGoodRows bits at mask n = (f : ℕ) → f < n → IsGoodRow bits at mask f (bits + 1)

-- the masks with no first bound up to each end below n are good
abbrev pub AreGoodEnds : ℕ → (ℕ → ℕ) → (Option ℕ → Option ℕ → ℕ) → ℕ → Type 0
AreGoodEnds bits at mask n = (u : ℕ) → u < n → IsGoodMask bits at mask None (Some u)

-- the masks from each index below n with no second bound are good
abbrev pub AreGoodStarts : ℕ → (ℕ → ℕ) → (Option ℕ → Option ℕ → ℕ) → ℕ → Type 0
AreGoodStarts bits at mask n = (f : ℕ) → f < n → IsGoodMask bits at mask (Some f) None

-- the candidate fails at this test, and passes every test before it
abbrev pub IsFirstFault : {R : Type 0} → ℕ → (ℕ → ℕ) → (ℕ → ℕ) → (Option ℕ → Option ℕ → ℕ) → OrderFault R → Type 0
IsFirstFault bits at select mask (Selector i) =
    (i < bits) × AreGoodIndices at select i × (IsOneBit (select i) (at i) → ⊥)
IsFirstFault bits at select mask (Repeated i) =
    (i < bits) × AreGoodIndices at select i × IsOneBit (select i) (at i) × ((j : ℕ) × (j < i) × (at j ≡ at i))
IsFirstFault bits at select mask (Mask (Some f) (Some u)) =
    AreGoodIndices at select bits × (f < bits) × (f ≤ u) × (u ≤ bits) × AreGoodRows bits at mask f
    × IsGoodRow bits at mask f u × (IsGoodMask bits at mask (Some f) (Some u) → ⊥)
IsFirstFault bits at select mask (Mask None (Some u)) =
    AreGoodIndices at select bits × AreGoodRows bits at mask bits × (u ≤ bits) × AreGoodEnds bits at mask u
    × (IsGoodMask bits at mask None (Some u) → ⊥)
IsFirstFault bits at select mask (Mask (Some f) None) =
    AreGoodIndices at select bits × AreGoodRows bits at mask bits × AreGoodEnds bits at mask (bits + 1)
    × (f < bits) × AreGoodStarts bits at mask f × (IsGoodMask bits at mask (Some f) None → ⊥)
IsFirstFault bits at select mask (Mask None None) =
    AreGoodIndices at select bits × AreGoodRows bits at mask bits × AreGoodEnds bits at mask (bits + 1)
    × AreGoodStarts bits at mask bits × (IsGoodMask bits at mask None None → ⊥)
