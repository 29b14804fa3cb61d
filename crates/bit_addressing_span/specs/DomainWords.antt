-- The words that are left of a domain, as numbers.
use Rattle.std.specs.Prelude.{ℕ, List, [], ◌∷◌, ◌++◌, Option, Some, None, map}

-- the number of a word, where there is one
abbrev pub option_word : {R : Type 0} → (R → ℕ) → Option R → List ℕ
option_word number None = []
option_word number (Some w) = number w ∷ []

-- a word, others and a word, each of the two where there is one, as numbers
abbrev pub words_left : {R : Type 0} → (R → ℕ) → Option R → List R → Option R → List ℕ
words_left number head body tail = option_word number head ++ map number body ++ option_word number tail
