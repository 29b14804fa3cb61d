-- What callers know of a run to the end.
use Rattle.std.proofs.Common.{ℕ, List, Option, IfSome}
use Rattle.std.specs.Io.KnownBytes.{Appends}
use Rattle.std.proofs.KnownBytes.{Consumes-whole}
use Rattle.bit_table_lines.specs.Lines.{lines}
use Rattle.bit_table_lines.specs.Runs.{RanToEnd}

-- where the reader tells its bytes, a run to the end wrote the answers to all their lines
pub answered-to_end : (answers : List (List ℕ) → List ℕ) (given left old new : Option (List ℕ))
    → RanToEnd answers given left old new → IfSome given (λ text. Appends old new (answers (lines text)))
answered-to_end answers given left old new h =
    Consumes-whole given left h.text (λ text. Appends old new (answers (lines text))) h.consumed h.ended h.answered
