-- The lines of a text.
use Rattle.std.specs.Prelude.{◌≡◌, ℕ, ◌-◌, ◌==◌, List, ◌++◌, length, take}
use Rattle.std.specs.List.{slice_split}

-- the lines of a text: it is cut at each line end, the byte 10, and the part behind the last one is a line too
abbrev pub lines : List ℕ → List (List ℕ)
lines text = slice_split (λ b. b == 10) text

-- the lines of a text that a line end closes
abbrev pub whole_lines : List ℕ → List (List ℕ)
whole_lines text = take (length (lines text) - 1) (lines text)

-- front is a beginning of whole
pub record IsBeginning (front whole : List ℕ) : Type 0 where
  pub rest : List ℕ
  pub joined : whole ≡ front ++ rest
