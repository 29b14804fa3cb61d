-- The state of a session. No public clause cites this module.
use Rattle.bit_table_script.specs.declared.session.Session.{Session}
use Rattle.bit_table_commands.specs.Tables.{State}
use Rattle.bit_table_script.specs.Scripts.{state_of}
use Rattle.bit_table_script.specs.Shapes.{shape_in}

-- the state of a script that a session has come to
abbrev pub session_state : {A O S C : Type 0} {a : _} {b : _} {c : _} {d : _} {e : _} {f : _} {g : _}
    → Session A O S C a b c d e f g → State
session_state s = state_of (shape_in s.table)
