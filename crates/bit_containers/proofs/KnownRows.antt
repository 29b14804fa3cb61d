-- Known rows of the definitions, computed: a wrong rule among them does not check.
use Rattle.std.proofs.Common.{◌≡◌, ℕ, zero, suc, Bool, true, false, not, List, [], ◌∷◌, refl}
use Rattle.std.specs.List.{items_where_true}
use Rattle.bit_containers.specs.Repeated.{repeated}
use Rattle.bit_containers.specs.Retained.{answers_of}

-- the bits 0 1 0 0 1
abbrev bits : List Bool
bits = false ∷ true ∷ false ∷ false ∷ true ∷ []

is_even : ℕ → Bool
is_even zero = true
is_even (suc n) = not (is_even n)

-- at even indices stand 0, 0, 1
even_ones : items_where_true (answers_of (λ i bit. is_even i) 0 bits) bits ≡ false ∷ false ∷ true ∷ []
unfolding is_even
even_ones = refl

-- where the bit is 1, two ones
ones : items_where_true (answers_of (λ i bit. bit) 0 bits) bits ≡ true ∷ true ∷ []
ones = refl

-- 1 0 three times, and never
thrice : repeated 3 (true ∷ false ∷ []) ≡ true ∷ false ∷ true ∷ false ∷ true ∷ false ∷ []
thrice = refl

never : repeated 0 bits ≡ []
never = refl
