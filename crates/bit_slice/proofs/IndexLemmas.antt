-- The indices of the ones of a list, from one index on: which they are (`in_indices`), that they ascend
-- (`indices_ascend`), and how many they are as a set (`len-indices`).
use Rattle.std.proofs.Common.{◌≡◌, ℕ, zero, suc, ◌+◌, ◌<◌, ◌≤◌, ◌||◌, Bool, true, false, cond, List, [], ◌∷◌}
use Rattle.std.proofs.Common.{length, get_or, count_by, refl, ap, ◌∙◌, arith, eqb}
use Rattle.std.proofs.lemmas.Bool.Decides.{nat_tests}
use Rattle.std.proofs.lemmas.List.Sums.{sum_by-cons}
use Rattle.std.specs.Cmp.{nat_cmp_total}
use Rattle.std.specs.List.{list_any}
use Rattle.std.specs.List.Sorted.{IsStrictlyIncreasing}
use Rattle.std.specs.Ordering.{nat_cmp}
use Rattle.std.specs.FinSet.{contains, from_list, len, len-insert, len-empty, contains-from_list_nat}
use Rattle.bit_slice_iterators.specs.Indices.{indices}

-- whether a number is in a list
abbrev pub is_in : List ℕ → ℕ → Bool
is_in xs q = list_any (λ y. eqb y q) xs

abbrev pub ones : ℕ → List Bool → List ℕ
ones from bits = indices (λ b. b) from bits

-- none is below the first index
none_below : (from q : ℕ) (bits : List Bool) → q < from → is_in (ones from bits) q ≡ false
none_below from q [] low = refl
none_below from q (true ∷ bits) low =
    let other : eqb from q ≡ false = grind (arith, nat_tests) in
    ap (λ b. b || is_in (ones (from + 1) bits) q) other ∙ none_below (from + 1) q bits (omega arith)
none_below from q (false ∷ bits) low = none_below (from + 1) q bits (omega arith)

-- an index is there where its bit is 1
pub in_indices : (from q k : ℕ) (bits : List Bool) → q ≡ from + k → is_in (ones from bits) q ≡ get_or bits k false
in_indices from q k [] e = refl
in_indices from q zero (true ∷ bits) e =
    let same : eqb from q ≡ true = grind (arith, nat_tests) in
    ap (λ b. b || is_in (ones (from + 1) bits) q) same
in_indices from q zero (false ∷ bits) e = none_below (from + 1) q bits (omega arith)
in_indices from q (suc k) (true ∷ bits) e =
    let other : eqb from q ≡ false = grind (arith, nat_tests) in
    ap (λ b. b || is_in (ones (from + 1) bits) q) other ∙ in_indices (from + 1) q k bits (omega arith)
in_indices from q (suc k) (false ∷ bits) e = in_indices (from + 1) q k bits (omega arith)

-- how many they are
pub len-indices : (from : ℕ) (bits : List Bool) → len (from_list {R = nat_cmp} (ones from bits)) ≡ count_by (λ b. b) bits
len-indices from [] = len-empty nat_cmp
len-indices from (true ∷ bits) =
    let rest = from_list {R = nat_cmp} (ones (from + 1) bits) in
    let new : contains rest from ≡ false =
    contains-from_list_nat (ones (from + 1) bits) from ∙ none_below (from + 1) from bits (omega arith) in
    let counted : len rest ≡ count_by (λ b. b) bits = len-indices (from + 1) bits in
    let step : count_by (λ b. b) (true ∷ bits) ≡ 1 + count_by (λ b. b) bits =
    sum_by-cons (λ b. cond b 1 0) true bits in
    let one : len rest + 1 ≡ count_by (λ b. b) (true ∷ bits) = omega (arith, counted, step) in
    len-insert nat_cmp_total rest from ∙ ap (λ b. cond b (len rest) (len rest + 1)) new ∙ one
len-indices from (false ∷ bits) = len-indices (from + 1) bits ∙ omega arith

-- each is at least the first index
least : (from k : ℕ) (bits : List Bool) → k < length (ones from bits) → from ≤ get_or (ones from bits) k 0
least from k [] low = omega arith
least from zero (true ∷ bits) low = omega arith
least from (suc k) (true ∷ bits) low = omega (arith, least (from + 1) k bits (omega arith))
least from k (false ∷ bits) low = omega (arith, least (from + 1) k bits low)

pub indices_ascend : (from : ℕ) (bits : List Bool) → IsStrictlyIncreasing (ones from bits)
indices_ascend from [] k low = omega arith
indices_ascend from (true ∷ bits) zero low = omega (arith, least (from + 1) 0 bits (omega arith))
indices_ascend from (true ∷ bits) (suc k) low =
    let next : suc k + 1 ≡ suc (k + 1) = omega arith in
    rw next (indices_ascend (from + 1) bits k (omega arith))
indices_ascend from (false ∷ bits) k low = indices_ascend (from + 1) bits k low
