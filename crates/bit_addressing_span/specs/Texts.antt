-- The texts of domains: numbers in brackets, a comma and a space between two.
--
-- The text: `numbers_text`. Its parts: `between`, `joined_text`, `begun_after`.
use Rattle.std.specs.Prelude.{ℕ, Bool, true, false, List, [], ◌∷◌, ◌++◌, codes}

-- what stands before a number: a comma and a space, where another was written
abbrev pub between : Bool → List ℕ
between true = codes ", "
between false = []

-- numbers, each as `text` writes it, after what is begun: a comma and a space between two
abbrev pub joined_text : (ℕ → List ℕ) → Bool → List ℕ → List ℕ
joined_text text begun [] = []
joined_text text begun (n ∷ ns) = between begun ++ (text n ++ joined_text text true ns)

-- numbers in brackets, each as `text` writes it
abbrev pub numbers_text : (ℕ → List ℕ) → List ℕ → List ℕ
numbers_text text ns = codes "[" ++ (joined_text text false ns ++ codes "]")

-- whether a number is written, after these
abbrev pub begun_after : Bool → List ℕ → Bool
begun_after begun [] = begun
begun_after begun (n ∷ ns) = true
