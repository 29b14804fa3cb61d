-- Bits of one word put into another.
use Rattle.bit_addressing_memory.proofs.Common.{◌≡◌, ◌≢◌, ℕ, ◌+◌, ◌<◌, ◌≤◌, Bool, Option, ◌∙◌, inl, inr, arith}
use Rattle.bit_addressing_memory.proofs.Common.{cases_lt, Reading, reading_in, IsStored}
use Rattle.bit_addressing_order.specs.Bits.{with_digit}
use Rattle.bit_addressing_order.specs.BitOrder.{IsLawful}
use Rattle.bit_addressing_memory.proofs.EntryLemmas.{indexed_same, indexed_other}

-- one bit more of a word written
pub stored_next : {Q : Type 0} (b : ℕ) (number : Q → ℕ) (at select : ℕ → ℕ) (mask : Option ℕ → Option ℕ → ℕ)
    (word made next : Q) (from i : ℕ) (bit : Bool) (now : ℕ → Bool) → IsLawful b at select mask → i < b → from ≤ i
    → bit ≡ now i → number next ≡ with_digit (number made) (at i) bit
    → IsStored (reading_in b number at) word made from i now
    → IsStored (reading_in b number at) word next from (i + 1) now
stored_next b number at select mask word made next from i bit now law low order is written had =
    let other = λ (j : ℕ) (small : j < b) (apart : j ≢ i).
    indexed_other b number at select mask made next i bit j law low written small apart in
    record {
      inside = λ j above below small. elim (cases_lt j i) [
        | inl before ↦ other j small (omega arith) ∙ had.inside j above before small
        | inr behind ↦
            let here : j ≡ i = omega arith in
            rw here (indexed_same number at made next i bit written ∙ is)
      ];
      below = λ j before small. other j small (omega arith) ∙ had.below j before small;
      above = λ j behind small. other j small (omega arith) ∙ had.above j (omega arith) small;
    }

-- more bits behind those that are put
pub stored_more : {Q : Type 0} (reading : Reading Q) (word mid next : Q) (from middle upto : ℕ) (now then : ℕ → Bool)
    → from ≤ middle → middle ≤ upto → ((i : ℕ) → middle ≤ i → i < upto → then i ≡ now i)
    → IsStored reading word mid from middle now → IsStored reading mid next middle upto then
    → IsStored reading word next from upto now
stored_more reading word mid next from middle upto now then first last same one two = record {
  inside = λ i high low small. elim (cases_lt i middle) [
    | inl before ↦ two.below i before small ∙ one.inside i high before small
    | inr behind ↦ two.inside i behind low small ∙ same i behind low
  ];
  below = λ i low small. two.below i (omega arith) small ∙ one.below i low small;
  above = λ i high small. two.above i high small ∙ one.above i (omega arith) small;
}
