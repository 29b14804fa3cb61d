-- Items with a space between each two.
use Rattle.std.proofs.Common.{◌≡◌, ℕ, ◌≤◌, List, [], ◌∷◌, ◌++◌, map, take, length, refl, ap, ◌∙◌, sym}
use Rattle.std.proofs.Common.{append-nil, take_all}
use Rattle.std.specs.Prelude.{◌==◌, false, decimal}
use Rattle.std.specs.List.{join_with_byte, flat_map}
use Rattle.bit_table_commands.specs.Replies.{row_numbers}

-- the texts of items, each behind a space
abbrev pub behind_spaces : {X : Type 0} → (X → List ℕ) → List X → List ℕ
behind_spaces shown items = flat_map (λ x. 32 ∷ shown x) items

-- the first of items, and the others each behind a space
pub spaced-cons : {X : Type 0} (shown : X → List ℕ) (x : X) (xs : List X)
    → join_with_byte 32 (map shown (x ∷ xs)) ≡ shown x ++ behind_spaces shown xs
spaced-cons shown x [] = sym (append-nil (shown x))
spaced-cons shown x (y ∷ xs) = ap (λ rest. shown x ++ (32 ∷ rest)) (spaced-cons shown y xs)

-- all items with a space between each two, put together from the first and the others
pub spaced-of : {X : Type 0} (shown : X → List ℕ) (x : X) (all xs : List X) (start text : List ℕ) (i : ℕ)
    → all ≡ x ∷ xs → start ≡ shown x → text ≡ start ++ behind_spaces shown (take i xs) → length xs ≤ i
    → text ≡ join_with_byte 32 (map shown all)
spaced-of shown x all xs start text i e s h k =
    h ∙ ap (λ l. start ++ behind_spaces shown l) (take_all i xs k) ∙ ap (λ l. l ++ behind_spaces shown xs) s
    ∙ sym (spaced-cons shown x xs) ∙ ap (λ l. join_with_byte 32 (map shown l)) (sym e)

-- some row numbers with a space between each two
pub row_numbers-some : (rows : List ℕ) → (length rows == 0) ≡ false
    → join_with_byte 32 (map decimal rows) ≡ row_numbers rows
row_numbers-some [] h = absurd cc
row_numbers-some (row ∷ rows) h = refl
