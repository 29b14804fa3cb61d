-- Rows that come in and go.
use Rattle.std.proofs.Common.{◌≡◌, ℕ, ℤ, ◌+◌, ◌*◌, ◌≤◌, List, length, None, arith, length-append}
use Rattle.std.proofs.lemmas.List.{length-take, length-drop}
use Rattle.bit_table_layout.specs.declared.layout.TheConstants.{MAX_BITS}
use Rattle.bit_table_layout.specs.Layouts.{row_width}
use Rattle.bit_table_layout.specs.Rows.{Row}
use Rattle.bit_table_commands.specs.declared.command.Command.{Command}
use Rattle.bit_table_commands.specs.declared.command.Command.TheVariants.{Insert, Delete}
use Rattle.bit_table_commands.specs.Causes.{cause_in}
use Rattle.bit_table_commands.specs.Edits.{edit, edited}
use Rattle.bit_table_commands.specs.Tables.{TableShape}
use Rattle.bit_table_commands.proofs.CallerLemmas.{accepted}
use Rattle.bit_table_script.proofs.AcceptedLemmas.{insert-same}
use Rattle.bit_table_tests.specs.Queue.{IsInsertion}

length-inserted : (rows : List Row) (p : ℕ) (vs : List ℤ) → length (edited rows (Insert p vs)) ≡ length rows + 1
length-inserted rows p vs = simp (length-append, length-take, length-drop) (omega arith)

-- a row more
pub one_more : (t : TableShape) (c : Command) → IsInsertion c → length (edit t c).rows ≡ length t.rows + 1
one_more t (Insert p vs) h = length-inserted t.rows p vs
one_more t c h = absurd h

-- the first row gone
pub one_less : (t : TableShape) (n : ℕ) → length t.rows ≡ n + 1 → length (edit t (Delete 0 1)).rows ≡ n
one_less t n h = simp (length-append, length-take, length-drop) (omega arith)

-- an insertion that no cause refuses has room for its row
pub fits-one_more : (t : TableShape) (c : Command) → IsInsertion c → cause_in t c ≡ None
    → (length t.rows + 1) * row_width t.layout.fields ≤ MAX_BITS
fits-one_more t c h e = rw (one_more t c h) at (accepted t c e).room

-- an insertion is refused in one table as in another of the same layout with as many rows
pub insertion-same : (one other : TableShape) (c : Command) → IsInsertion c → one.layout ≡ other.layout
    → length one.rows ≡ length other.rows → cause_in one c ≡ cause_in other c
insertion-same one other (Insert p vs) h layouts counts = insert-same one other p vs layouts counts
insertion-same one other c h layouts counts = absurd h
