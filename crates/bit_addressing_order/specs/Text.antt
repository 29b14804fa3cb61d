-- The texts of places and words.
use Rattle.std.specs.Prelude.{ℕ, ◌+◌, List, [], ◌∷◌, ◌++◌, zero, suc, codes}
use Rattle.std.specs.Int.{bit_at}

-- the lowest `count` binary digits of n, as characters, the highest first
abbrev pub binary_text : ℕ → ℕ → List ℕ
binary_text zero n = []
binary_text (suc k) n = (48 + bit_at n k) ∷ binary_text k n

-- the type's name and `<`, the register's name, and what is shown in parentheses
abbrev pub debug_text : List ℕ → List ℕ → List ℕ → List ℕ
debug_text opening name shown = opening ++ (name ++ (codes ">(" ++ (shown ++ codes ")")))
