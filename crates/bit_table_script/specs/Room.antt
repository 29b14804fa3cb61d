-- What commands make of the room of a table: of how many rows more surely fit without memory.
use Rattle.std.specs.Prelude.{◌≡◌, ℕ, ◌+◌, ◌-◌, ◌≤◌, ⊤, length}
use Rattle.bit_table_commands.specs.declared.command.Command.{Command}
use Rattle.bit_table_commands.specs.declared.command.Command.TheVariants.{Insert, Delete, Dup, Load, Back, Drop}
use Rattle.bit_table_script.specs.View.{TableView}

-- an insertion, or a copy of rows behind the last one, adds no more rows than there is room for
abbrev pub IsWithinRoom : TableView → Command → Type 0
IsWithinRoom old (Insert p vs) = 1 ≤ old.room
IsWithinRoom old (Dup p q) = q - p ≤ old.room
IsWithinRoom old c = ⊥

-- the room after a command that was carried out: less by at most the rows that came, more by at least those that went.
-- After `Load` and `Back` it may be any number; no other command lowers it
abbrev pub RoomAfter : TableView → Command → TableView → Type 0
RoomAfter old (Insert p vs) new = old.room ≤ new.room + 1
RoomAfter old (Delete p q) new = old.room + (q - p) ≤ new.room
RoomAfter old (Dup p q) new = old.room ≤ new.room + (q - p)
RoomAfter old (Load n bytes) new = ⊤
RoomAfter old Back new = ⊤
RoomAfter old (Drop x) new = old.room + length old.shape.rows ≤ new.room + length new.shape.rows
RoomAfter old c new = old.room ≤ new.room
