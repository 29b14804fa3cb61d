-- Lists that tests tell.
use Rattle.std.proofs.Common.{◌≡◌, ◌&&◌, Bool, List, [], ◌∷◌, map, refl, ap₂}

pub record SameCons {A : Type 0} (b c : A) (bs cs : List A) : Type 0 where
  pub first : b ≡ c
  pub rest : bs ≡ cs

pub same_cons : {A : Type 0} (b c : A) (bs cs : List A) → b ∷ bs ≡ c ∷ cs → SameCons b c bs cs
same_cons b c bs cs h = record { first = cc; rest = cc }

-- what two tests tell together
pub both_same : {A B : Type 0} (f h : A → Bool) (g k : B → Bool) (xs : List A) (ys : List B)
    → map f xs ≡ map g ys → map h xs ≡ map k ys
    → map (λ x. f x && h x) xs ≡ map (λ y. g y && k y) ys
both_same f h g k [] [] one other = refl
both_same f h g k [] (y ∷ ys) one other = absurd cc
both_same f h g k (x ∷ xs) [] one other = absurd cc
both_same f h g k (x ∷ xs) (y ∷ ys) one other =
    let a = same_cons (f x) (g y) (map f xs) (map g ys) one in
    let b = same_cons (h x) (k y) (map h xs) (map k ys) other in
    ap₂ (λ s t. s ∷ t) (ap₂ (λ s t. s && t) a.first b.first) (both_same f h g k xs ys a.rest b.rest)

-- one map where another gives the same of each
pub map_same : {A B : Type 0} (f g : A → B) (xs : List A) → ((x : A) → f x ≡ g x) → map f xs ≡ map g xs
map_same f g [] h = refl
map_same f g (x ∷ xs) h = ap₂ (λ y ys. y ∷ ys) (h x) (map_same f g xs h)
