-- One word of a move.
--
-- `moved_bit_inside`, `moved_bit_outside`: what the move leaves at a place.
-- `gathered_of`: the word whole, of one stored in a part. `few_reads`: how many words were read for it.
use Rattle.bit_addressing_memory.proofs.Common.{◌≡◌, ℕ, ◌+◌, ◌-◌, ◌*◌, ◌^◌, ◌<◌, ◌≤◌, min, Bool, List, length, get_or}
use Rattle.bit_addressing_memory.proofs.Common.{Option, Some, None, sym, ◌∙◌, inl, inr, arith, cases_lt, touched}
use Rattle.bit_addressing_memory.proofs.Common.{Reading, entry, IsStored}
use Rattle.std.specs.Prelude.{IfSome}
use Rattle.std.proofs.lemmas.Bool.Decides.{nat_tests}
use Rattle.bit_addressing_memory.proofs.EntryLemmas.{entry_read}
use Rattle.bit_addressing_memory.proofs.PlaceLemmas.{touched_two}
use Rattle.bit_addressing_memory.specs.MoveSteps.{moved_bit, most_reads, IsGathered, IsPart}

pub moved_bit_inside : {R : Type 0} (reading : Reading R) (before : List R) (source target len p : ℕ)
    → target ≤ p → p < target + len
    → moved_bit reading before source target len p ≡ entry reading before (source + (p - target))
unfolding moved_bit
moved_bit_inside reading before source target len p h g = grind (arith, nat_tests)

pub moved_bit_outside : {R : Type 0} (reading : Reading R) (before : List R) (source target len p : ℕ)
    → (target ≤ p → target + len ≤ p) → moved_bit reading before source target len p ≡ entry reading before p
unfolding moved_bit
moved_bit_outside reading before source target len p out = grind (arith, nat_tests)

-- a word that has the source's bits where the target lies, and its own beside them
pub gathered_of : {R : Type 0} (reading : Reading R) (before : List R) (k source target len from upto : ℕ) (own word : R)
    (now : ℕ → Bool) → k < length before → own ≡ get_or before k own → IsPart reading.bits k target len from upto
    → ((i : ℕ) → from ≤ i → i < upto → now i ≡ entry reading before (source + (k * reading.bits + i - target)))
    → IsStored reading own word from upto now → IsGathered reading before k source target len word
gathered_of reading before k source target len from upto own word now within read part is stored i small =
    let old = entry_read reading before k i own small within read in
    let place : ℕ = k * reading.bits + i in
    elim (cases_lt i from) [
      | inl low ↦
          stored.below i low small
          ∙ old
          ∙ sym (moved_bit_outside reading before source target len place (λ start. absurd (omega (arith, part.from_is))))
      | inr high ↦ elim (cases_lt i upto) [
        | inl inside ↦
            stored.inside i high inside small
            ∙ is i high inside
            ∙ sym (moved_bit_inside reading before source target len place (omega (arith, part.from_is))
            (omega (arith, part.upto_is)))
        | inr past ↦
            stored.above i past small
            ∙ old
            ∙ sym (moved_bit_outside reading before source target len place (λ _. omega (arith, part.upto_is)))
      ]
    ]

pub few_reads : {X : Type 0} (straight : Option X) (b place n before own after : ℕ) → 0 < b → n ≤ b → own ≤ before + 1
    → after ≤ own + n → IfSome straight (λ _. after ≡ min (own + touched b place n) (2 ^ 64 - 1))
    → after ≤ before + most_reads straight b
few_reads None b place n before own after some most first all exact = omega arith
few_reads (Some straight) b place n before own after some most first all exact =
    omega (arith, touched_two b place n some most, exact)
