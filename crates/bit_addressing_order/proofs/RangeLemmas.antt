-- The two ends of a list of consecutive numbers.
use Rattle.std.proofs.Common.{◌≡◌, ℕ, zero, suc, ◌+◌, ◌-◌, ◌<◌, [], ◌∷◌, ◌++◌, length, refl, ap, ◌∙◌, arith}
use Rattle.std.specs.List.{range_with_len}
use Rattle.std.proofs.lemmas.List.FromFn.{length-range_with_len}

-- none are left where the bounds meet
pub range-none : (from upto : ℕ) → from ≡ upto → range_with_len from (upto - from) ≡ []
range-none from upto same = let none : upto - from ≡ 0 = omega arith in rw none refl

-- the first is the lower bound
pub range-first : (from upto : ℕ) → from < upto
    → range_with_len from (upto - from) ≡ from ∷ range_with_len (from + 1) (upto - (from + 1))
range-first from upto below =
    let more : upto - from ≡ suc (upto - (from + 1)) = omega arith in
    rw more refl

range_with_len-last : (from n : ℕ) → range_with_len from (suc n) ≡ range_with_len from n ++ (from + n) ∷ []
range_with_len-last from zero = let same : from + 0 ≡ from = omega arith in rw same refl
range_with_len-last from (suc n) =
    let next : from + 1 + n ≡ from + suc n = omega arith in
    ap (λ rest. from ∷ rest) (range_with_len-last (from + 1) n ∙ ap (λ k. range_with_len (from + 1) n ++ k ∷ []) next)

-- the last is one below the upper bound
pub range-last : (from upto last : ℕ) → from < upto → last ≡ upto - 1
    → range_with_len from (upto - from) ≡ range_with_len from (last - from) ++ last ∷ []
range-last from upto last below e =
    let more : upto - from ≡ suc (last - from) = omega arith in
    let end : from + (last - from) ≡ last = omega arith in
    rw more (range_with_len-last from (last - from) ∙ ap (λ k. range_with_len from (last - from) ++ k ∷ []) end)

-- how many there are
pub length-range : (from upto : ℕ) → length (range_with_len from (upto - from)) ≡ upto - from
length-range from upto = length-range_with_len from (upto - from)

pub ruleset ends_of_range = (range-none, range-first, range-last, length-range)
