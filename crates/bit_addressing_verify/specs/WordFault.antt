-- What `verify` answers: the first register at which a candidate is unlawful, and its first fault there.
use Rattle.std.specs.Prelude.{ℕ, zero, suc, ◌↔◌, List, [], ◌∷◌, Option, Result, IsOk, IfErr}
use Rattle.bit_addressing_order.specs.BitOrder.{IsLawful}
use Rattle.bit_addressing_verify.specs.OrderFault.{IsFirstFault}
use Rattle.bit_addressing_verify.specs.declared.fault.OrderFault.{OrderFault}
use Rattle.bit_addressing_verify.specs.declared.fault.WordFault.{WordFault}
use Rattle.bit_addressing_verify.specs.declared.fault.WordFault.TheVariants.{U8, U16, U32, U64, Usize, U128}

-- what a candidate is at registers of so many bits: its positions, selectors and masks
pub record Candidate : Type 0 where
  pub bits : ℕ
  pub at : ℕ → ℕ
  pub select : ℕ → ℕ
  pub mask : Option ℕ → Option ℕ → ℕ

abbrev pub candidate : ℕ → (ℕ → ℕ) → (ℕ → ℕ) → (Option ℕ → Option ℕ → ℕ) → Candidate
candidate bits at select mask = record { bits = bits; at = at; select = select; mask = mask }

-- the candidate is lawful there
abbrev pub IsLawfulThere : Candidate → Type 0
IsLawfulThere c = IsLawful c.bits c.at c.select c.mask

-- the fault is the candidate's first there
abbrev pub IsFirstFaultThere : {R : Type 0} → Candidate → OrderFault R → Type 0
IsFirstFaultThere c fault = IsFirstFault c.bits c.at c.select c.mask fault

-- the candidate is lawful at each of these registers
abbrev pub AreLawful : List Candidate → Type 0
AreLawful [] = Unit {0}
AreLawful (c ∷ cs) = IsLawfulThere c × AreLawful cs

-- the fault is the candidate's first at the register of number k, and it is lawful at those before
abbrev pub IsFirstFaultAt : {R : Type 0} → ℕ → List Candidate → OrderFault R → Type 0
IsFirstFaultAt k [] fault = ⊥
IsFirstFaultAt zero (c ∷ cs) fault = IsFirstFaultThere c fault
IsFirstFaultAt (suc k) (c ∷ cs) fault = IsLawfulThere c × IsFirstFaultAt k cs fault

-- the fault is the first of the first register at which the candidate is unlawful
abbrev pub IsFirstWordFault : List Candidate → WordFault → Type 0
IsFirstWordFault each (U8 fault) = IsFirstFaultAt 0 each fault
IsFirstWordFault each (U16 fault) = IsFirstFaultAt 1 each fault
IsFirstWordFault each (U32 fault) = IsFirstFaultAt 2 each fault
IsFirstWordFault each (U64 fault) = IsFirstFaultAt 3 each fault
IsFirstWordFault each (Usize fault) = IsFirstFaultAt 4 each fault
IsFirstWordFault each (U128 fault) = IsFirstFaultAt 5 each fault

-- the answer is `Ok` exactly where the candidate is lawful at each register, else its first fault
abbrev pub VerifiesEach : Result (Unit {0}) WordFault → List Candidate → Type 0
VerifiesEach answer each = (IsOk answer ↔ AreLawful each) × IfErr answer (IsFirstWordFault each)
