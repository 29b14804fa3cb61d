-- Things that show lists of bits compared by these lists: what `==`, `cmp`, `partial_cmp` and `hash` are there, and
-- the laws of each. `bits` gives the list.
--
-- The words: `bits_eq`, `bits_cmp`, `bits_fed`. The laws: `bits_equiv`, `bits_per`, `bits_total`, `bits_ties`,
-- `bits_po`, `bits_alike`.
use Rattle.std.specs.Prelude.{◌≡◌, Bool, true, false, IsTrue, List, refl}
use Rattle.std.specs.Bool.{beq}
use Rattle.std.specs.Cmp.{IsEquivalence, IsPartialEquivalence, IsTotalOrder, IsPartialOrder, bool_cmp_total}
use Rattle.std.specs.Cmp.{bool_eq_equiv, booleans_Decides, on_equiv, on_total, partial_equiv_from_equiv}
use Rattle.std.specs.Cmp.{partial_order_from_agreeing_total}
use Rattle.std.specs.Cmp.Lexicographic.{pointwise, slice_cmp, lists_equiv, lists_total, lists_ties}
use Rattle.std.specs.Hash as fed
use Rattle.std.specs.Hash.{HashWrites, on_Alike, items_Alike, same_Alike}
use Rattle.std.specs.Ordering.{bool_cmp, eq_by_cmp, on, as_partial_cmp}
use Rattle.std.specs.declared.cmp.Ordering.{Ordering}

-- the lists are one
abbrev pub bits_eq : {K : Type 0} → (K → List Bool) → K → K → Bool
bits_eq bits = on bits (pointwise beq)

-- the first bits that differ decide, false before true, and where none do the shorter list is less
abbrev pub bits_cmp : {K : Type 0} → (K → List Bool) → K → K → Ordering
bits_cmp bits = on bits (slice_cmp bool_cmp)

-- the length, and then each bit
abbrev pub bits_fed : {K : Type 0} → (K → List Bool) → K → HashWrites
bits_fed bits x = fed.slice fed.bool (bits x)

pub bits_equiv : {K : Type 0} (bits : K → List Bool) → IsEquivalence (bits_eq bits)
bits_equiv bits = on_equiv bits (lists_equiv bool_eq_equiv)

pub bits_per : {K : Type 0} (bits : K → List Bool) → IsPartialEquivalence (bits_eq bits)
bits_per bits = partial_equiv_from_equiv (bits_equiv bits)

pub bits_total : {K : Type 0} (bits : K → List Bool) → IsTotalOrder (bits_cmp bits)
bits_total bits = on_total bits (lists_total bool_cmp_total)

bit_ties : (x y : Bool) → beq x y ≡ eq_by_cmp bool_cmp x y
bit_ties true true = refl
bit_ties true false = refl
bit_ties false true = refl
bit_ties false false = refl

pub bits_ties : {K : Type 0} (bits : K → List Bool) (x y : K) → bits_eq bits x y ≡ eq_by_cmp (bits_cmp bits) x y
bits_ties bits x y = lists_ties bool_cmp bit_ties (bits x) (bits y)

pub bits_po : {K : Type 0} (bits : K → List Bool) → IsPartialOrder (bits_eq bits) (as_partial_cmp (bits_cmp bits))
bits_po bits =
    partial_order_from_agreeing_total (bits_cmp bits) (bits_total bits) (λ x y. refl) (bits_ties bits)

pub bits_alike : {K : Type 0} (bits : K → List Bool) (x y : K) → IsTrue (bits_eq bits x y)
    → bits_fed bits x ≡ bits_fed bits y
bits_alike bits = (on_Alike bits (items_Alike (same_Alike fed.bool booleans_Decides))).fed
