-- One more index that is asked.
use Rattle.std.proofs.Common.{◌≡◌, ℕ, suc, ◌+◌, false, List, [], ◌∷◌, ◌++◌, nat_lt, sym, ap, ◌∙◌, subst, arith, refl, zero}
use Rattle.std.proofs.lemmas.Bool.Decides.{nat_tests}
use Rattle.std.proofs.lemmas.Fn.{FoldsTo-push}
use Rattle.std.specs.List.{FoldsTo, range_with_len}

range_push : (from n : ℕ) → range_with_len from (suc n) ≡ range_with_len from n ++ (from + n) ∷ []
range_push from zero = let same : from + 0 ≡ from = omega arith in rw same refl
range_push from (suc n) =
    let next : from + 1 + n ≡ from + suc n = omega arith in
    ap (λ rest. from ∷ rest) (range_push (from + 1) n ∙ ap (λ k. range_with_len (from + 1) n ++ k ∷ []) next)

pub asked_more : {F : Type 0} (R : F → ℕ → F → Type 0) (f mid last : F) (k : ℕ) → FoldsTo R f (range_with_len 0 k) mid
    → R mid k last → FoldsTo R f (range_with_len 0 (k + 1)) last
asked_more R f mid last k before step =
    let more : suc k ≡ k + 1 = omega arith in
    let start : 0 + k ≡ k = omega arith in
    let whole : range_with_len 0 k ++ k ∷ [] ≡ range_with_len 0 (k + 1) =
    ap (λ i. range_with_len 0 k ++ i ∷ []) (sym start) ∙ sym (range_push 0 k) ∙ ap (range_with_len 0) more in
    subst (λ (xs : List ℕ). FoldsTo R f xs last) whole (FoldsTo-push R f (range_with_len 0 k) mid k last before step)

-- a number is not below itself
pub not_below : (m n : ℕ) → m ≡ n → nat_lt m n ≡ false
not_below m n same = grind (arith, nat_tests)
