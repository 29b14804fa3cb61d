-- A list whose elements are set one after another: `all_set`.
use Rattle.std.proofs.Common.{◌≡◌, ℕ, ◌+◌, ◌<◌, List, ◌++◌, length, drop, replicate, set, arith, ◌∙◌, inl, inr}
use Rattle.std.proofs.Common.{length-set, get_or-set_same, get_or-set_other, refl, ◌≤◌}
use Rattle.std.proofs.lemmas.Bool.{cases_eq}
use Rattle.std.proofs.lemmas.List.{places, same_lists}

-- none
pub set_none : {X : Type 0} (xs : List X) (y : X) → xs ≡ replicate 0 y ++ drop 0 xs
set_none xs y = refl

-- one more
pub set_more : {X : Type 0} (xs : List X) (n : ℕ) (y : X) → n < length xs
    → set (replicate n y ++ drop n xs) n y ≡ replicate (n + 1) y ++ drop (n + 1) xs
set_more xs n y more =
    let size : length (replicate n y ++ drop n xs) ≡ length xs = search (places, arith, more) in
    same_lists _ _ (grind (arith, places, length-set (replicate n y ++ drop n xs) n y)) (λ k d inside.
    elim (cases_eq k n) [
      | inl same ↦ rw same (grind (arith, places, get_or-set_same (replicate n y ++ drop n xs) n y d (omega arith)))
      | inr other ↦ get_or-set_other (replicate n y ++ drop n xs) n k y d other ∙ grind (arith, places)
    ])

-- all
pub set_whole : {X : Type 0} (xs : List X) (n : ℕ) (y : X) → length xs ≤ n
    → replicate n y ++ drop n xs ≡ replicate n y
set_whole xs n y whole = same_lists _ _ (grind (arith, places)) (λ k d inside. grind (arith, places))

pub ruleset all_set = (set_none, set_more, set_whole)
