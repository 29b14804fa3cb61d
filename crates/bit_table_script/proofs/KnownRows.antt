-- Known scripts and their answers, computed: a wrong rule among the definitions does not check.
use Rattle.std.proofs.Common.{◌≡◌, [], ◌++◌, codes, refl}
use Rattle.std.specs.Prelude.{⊤}
use Rattle.std.specs.Fmt.{digits}
use Rattle.hex.proofs.OnLiterals.{hex_on_literals}
use Rattle.bit_table_layout.specs.Layouts.{layout_of}
use Rattle.bit_table_commands.specs.Commands.{command_of}
use Rattle.bit_table_commands.specs.Causes.{cause_in}
use Rattle.bit_table_script.specs.Scripts.{answer, after, script_answer}

-- what computes the answer to a script at a literal
unfoldable scripts_on_literals : ⊤
unfolding answer after cause_in layout_of command_of hex_on_literals digits
scripts_on_literals = tt

-- nothing is answered to no line with a word
script-empty : script_answer [] ≡ []
unfolding scripts_on_literals
script-empty = refl

script-blank : script_answer (codes " \n\t\r\n\n") ≡ []
unfolding scripts_on_literals
script-blank = refl

-- one row: 5 and 17 are 101 and 10001, the first bit the lowest
script-one_row : script_answer (codes "low a:u3 b:u5\ninsert 0 5 17\nimage\n") ≡ codes "ok\nok\n1 8d\n"
unfolding scripts_on_literals
script-one_row = refl

-- two rows, without a last line end
script-two_rows : script_answer (codes "low a:u3 b:i4\ninsert 0 5 -1\ninsert 1 2 3\nimage")
    ≡ codes "ok\nok\nok\n2 7d0d\n"
unfolding scripts_on_literals
script-two_rows = refl

-- the same under `high`, the first bit the highest
script-one_row_high : script_answer (codes "high a:u3 b:u5\ninsert 0 5 17\nimage\n") ≡ codes "ok\nok\n1 b1\n"
unfolding scripts_on_literals
script-one_row_high = refl

script-two_rows_high : script_answer (codes "high a:u3 b:i4\ninsert 0 5 -1\ninsert 1 2 3\nimage")
    ≡ codes "ok\nok\nok\n2 be8c\n"
unfolding scripts_on_literals
script-two_rows_high = refl

-- no row, and a row of zeros
script-no_row : script_answer (codes "low f:u1\nimage\ninsert 0 0\nimage\n") ≡ codes "ok\n0\nok\n1 00\n"
unfolding scripts_on_literals
script-no_row = refl

-- a field that crosses bytes
script-wide : script_answer (codes "low p:u3 q:u64\ninsert 0 7 18446744073709551615\nimage\n")
    ≡ codes "ok\nok\n1 ffffffffffffffff07\n"
unfolding scripts_on_literals
script-wide = refl

-- lines that are no layout leave the next line to be tried as one; behind a layout line they are no commands
script-no_layout : script_answer (codes "insert 0 1\nlow\nlow a:u65\n")
    ≡ codes "refused layout\nrefused layout\nrefused layout\n"
unfolding scripts_on_literals
script-no_layout = refl

script-no_layout_then_one : script_answer (codes "low a:u1 a:u1\nlow a:u01\nlow a:u1\n")
    ≡ codes "refused layout\nrefused layout\nok\n"
unfolding scripts_on_literals
script-no_layout_then_one = refl

script-second_layout : script_answer (codes "low a:u1\nlow a:u1\nþ\n") ≡ codes "ok\nrefused form\nrefused form\n"
unfolding scripts_on_literals
script-second_layout = refl

-- the first cause is answered, and a refused line changes nothing
script-refused : script_answer (codes "low a:u3 b:i4\ninsert 0 5 -1\ninsert 1 2 3\n"
    ++ codes "insert 3 8 0\ninsert 0 8 0\ninsert 0 5\ninsert 0 +1 0\nimage\n")
    ≡ codes "ok\nok\nok\nrefused row\nrefused value\nrefused form\nrefused form\n2 7d0d\n"
unfolding scripts_on_literals
script-refused = refl

-- an insertion goes before the row of its place
script-before : script_answer (codes "low a:u3 b:i4\ninsert 0 2 3\ninsert 0 5 -1\nimage\n")
    ≡ codes "ok\nok\nok\n2 7d0d\n"
unfolding scripts_on_literals
script-before = refl
