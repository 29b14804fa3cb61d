-- The bits of a whole number: `lowest_first`, `highest_first`. Answers: `told`, `same_lists`.
use Rattle.std.proofs.Common.{◌≡◌, ℕ, ◌<◌, Bool, true, false, IsTrue, List, refl, sym, ap, ◌∙◌}
use Rattle.std.specs.Bool.{beq}
use Rattle.std.specs.Cmp.Lexicographic.{pointwise}
use Rattle.std.specs.Prelude.{ℤ, ◌↔◌}
use Rattle.bit_slice_fields.specs.Number.{field_bits}
use Rattle.bit_slice_fields.proofs.CallerLemmas.{up_bits, down_bits}
use Rattle.bit_slice_views.proofs.CompareLemmas.{equal_own, equal_same}
use Rattle.bits_c.specs.Windows.{number_bits, bit_number, Tells}

-- what a load and a store take for a number's bits, where the first bit of a word counts lowest
pub lowest_first : (low : Bool) (b head n : ℕ) (z : ℤ) → low ≡ true → 0 < b
    → field_bits low true b head n z ≡ number_bits low n z
lowest_first true b head n z is some = up_bits b head n z some
lowest_first false b head n z is some = cc

-- and where it counts highest
pub highest_first : (low : Bool) (b head n : ℕ) (z : ℤ) → low ≡ false → 0 < b
    → field_bits low false b head n z ≡ number_bits low n z
highest_first true b head n z is some = cc
highest_first false b head n z is some = down_bits b head n z some

-- what a truth value tells of a fact
pub told : (number : ℕ) (bit : Bool) (fact : Type 0) → (IsTrue bit ↔ fact) → number ≡ bit_number bit
    → Tells number fact
told number true fact is same = (λ _. same, λ no. absurd (no (is.0 refl)))
told number false fact is same = (λ holds. let wrong : false ≡ true = is.1 holds in cc, λ _. same)

-- what std's comparison of two lists tells of them
pub same_lists : (same : Bool) (xs ys : List Bool) → same ≡ pointwise beq xs ys → IsTrue same ↔ (xs ≡ ys)
same_lists same xs ys is = (
  λ yes. equal_same xs ys (sym is ∙ yes),
  λ equal. is ∙ ap (pointwise beq xs) (sym equal) ∙ equal_own xs,
)
