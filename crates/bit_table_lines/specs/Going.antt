-- How far a run has come. No public clause cites this module.
use Rattle.std.specs.Prelude.{◌≡◌, ℕ, List, [], ◌∷◌, ◌++◌, Option}
use Rattle.std.specs.Io.KnownBytes.{Appends}
use Rattle.bit_table_lines.specs.Lines.{lines, whole_lines}

-- text was read and its whole lines were answered: line is what came behind the last of them, and `next` gives the
-- answers to the lines that follow. The first of the answers went out, and the others are held
pub record Going (answers next : List (List ℕ) → List ℕ) (start now : Option (List ℕ)) (held text line : List ℕ)
    : Type 0 where
  pub cut : lines text ≡ whole_lines text ++ line ∷ []
  pub follows : (rest : List (List ℕ)) → answers (whole_lines text ++ rest) ≡ answers (whole_lines text) ++ next rest
  pub gone : List ℕ
  pub answered : answers (whole_lines text) ≡ gone ++ held
  pub went : Appends start now gone

-- the first lines of text were answered: the first of the answers went out, and the others are held
pub record HasHeld (answers : List (List ℕ) → List ℕ) (start now : Option (List ℕ)) (held text : List ℕ)
    : Type 0 where
  pub done : List ℕ
  pub rest : List ℕ
  pub joined : text ≡ done ++ rest
  pub gone : List ℕ
  pub answered : answers (whole_lines done) ≡ gone ++ held
  pub went : Appends start now gone
