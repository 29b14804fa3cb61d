-- The union of selectors, as a loop makes it.
use Rattle.std.proofs.Common.{◌≡◌, ℕ, ◌^◌, List, [], ◌∷◌, ◌++◌, map, bit_or, sym, ◌∙◌, ap, subst, inl, inr, arith}
use Rattle.std.specs.Int.{bit_at}
use Rattle.std.specs.List.{Contains}
use Rattle.std.proofs.lemmas.Bool.{cases_eq}
use Rattle.std.proofs.lemmas.List.{map-append}
use Rattle.std.proofs.lemmas.List.Elements.{Contains-append_left, Contains-push, Contains-push_cases}
use Rattle.std.proofs.lemmas.Nat.Bits.{bit_at-zero, bit_at-lt, bit_at-pow_same, bit_at-pow_other, bit_at_or}
use Rattle.bit_addressing_order.specs.BitOrder.{IsSelector}
use Rattle.bit_addressing_order.specs.BitMask.{IsUnionOf}

-- no selector makes the empty mask
pub IsUnionOf-none : (n : ℕ) → n ≡ 0 → IsUnionOf n []
IsUnionOf-none n e = λ p. (
  λ one. absurd (omega (arith, bit_at-zero p, ap (λ k. bit_at k p) e)),
  λ w. absurd (omega arith),
)

-- a further selector adds its position
IsUnionOf-push : (bits n s r : ℕ) (xs : List ℕ) → r ≡ bit_or n s → IsSelector bits s → IsUnionOf n xs
    → IsUnionOf r (xs ++ s ∷ [])
IsUnionOf-push bits n s r xs e one before = λ p.
    let either : bit_at r p ≡ bit_at (bit_or n s) p = ap (λ k. bit_at k p) e in
    let joined = bit_at_or n s p in
    let alone : bit_at s p ≡ bit_at (2 ^ one.0) p = ap (λ k. bit_at k p) one.2 in (
      λ set. elim (cases_eq p one.0) [
        | inl same ↦
            let here : s ≡ 2 ^ p = one.2 ∙ ap (λ k. 2 ^ k) (sym same) in
            subst (λ k. Contains (xs ++ s ∷ []) k) here (Contains-push xs s)
        | inr other ↦
            let off = bit_at-pow_other one.0 p other in
            Contains-append_left xs (s ∷ []) (2 ^ p) ((before p).0 (omega arith))
      ],
      λ among. elim (Contains-push_cases xs s (2 ^ p) among) [
        | inl earlier ↦
            let on = (before p).1 earlier in
            omega (arith, bit_at-lt s p)
        | inr last ↦
            let on : bit_at s p ≡ 1 = ap (λ k. bit_at k p) last ∙ bit_at-pow_same p in
            omega (arith, bit_at-lt n p)
      ],
    )

-- the same, of numbers that a function reads
pub IsUnionOf-more : {X : Type 0} (number : X → ℕ) (bits n r : ℕ) (xs : List X) (x : X)
    → r ≡ bit_or n (number x) → IsSelector bits (number x) → IsUnionOf n (map number xs)
    → IsUnionOf r (map number (xs ++ x ∷ []))
IsUnionOf-more number bits n r xs x e one before =
    rw map-append (IsUnionOf-push bits n (number x) r (map number xs) e one before)

pub ruleset unions = (IsUnionOf-none)
