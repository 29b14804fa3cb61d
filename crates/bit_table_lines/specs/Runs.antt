-- What a run did before it ended. `answers` gives what is answered to a list of lines.
use Rattle.std.specs.Prelude.{◌≡◌, ℕ, List, ◌++◌, Option, ◌⊎◌}
use Rattle.std.specs.Io.KnownBytes.{Appends, Consumes, IsAtEnd}
use Rattle.bit_table_lines.specs.Lines.{lines, whole_lines}
use Rattle.bit_table_lines.specs.Streams.{AppendsPart}

-- the answers to the first lines of a text went out, each whole
pub record AppendsFirstLines (answers : List (List ℕ) → List ℕ) (old new : Option (List ℕ)) (text : List ℕ)
    : Type 0 where
  pub done : List ℕ
  pub rest : List ℕ
  pub joined : text ≡ done ++ rest
  pub appended : Appends old new (answers (whole_lines done))

-- the run came to a clean end: the answers to all lines of the text went out
pub record RanToEnd (answers : List (List ℕ) → List ℕ) (given left old new : Option (List ℕ)) : Type 0 where
  pub text : List ℕ
  pub consumed : Consumes given left text
  pub ended : IsAtEnd left
  pub answered : Appends old new (answers (lines text))

-- a read failed: exactly the answers to the lines that were read whole went out
pub record StoppedByRead (answers : List (List ℕ) → List ℕ) (given left old new : Option (List ℕ)) : Type 0 where
  pub text : List ℕ
  pub consumed : Consumes given left text
  pub answered : Appends old new (answers (whole_lines text))

-- a write failed: a proper beginning of the answers to the lines that were read whole went out; a clean end makes
-- the last line whole
pub record StoppedByWrite (answers : List (List ℕ) → List ℕ) (given left old new : Option (List ℕ)) : Type 0 where
  pub text : List ℕ
  pub consumed : Consumes given left text
  pub answered : AppendsPart old new (answers (whole_lines text))
      ⊎ (IsAtEnd left × AppendsPart old new (answers (lines text)))

-- memory was wanted: the answers to the first of the lines that were read whole went out, each whole
pub record StoppedByMemory (answers : List (List ℕ) → List ℕ) (given left old new : Option (List ℕ)) : Type 0 where
  pub text : List ℕ
  pub consumed : Consumes given left text
  pub answered : AppendsFirstLines answers old new text
