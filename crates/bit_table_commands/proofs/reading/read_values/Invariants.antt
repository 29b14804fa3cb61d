use Rattle.std.proofs.Common.{◌≡◌, ◌++◌, map, length}
use Rattle.bit_table_layout.specs.LineWordsLeft.{words_left}
use Rattle.bit_table_commands.specs.CommandSteps.{value_in}
use Rattle.bit_table_commands.proofs.reading.read_values.Given as goal

-- the values so far and those of the words that are left are the values
abbrev pub invariant-loop-word : goal.invariant-loop-word
invariant-loop-word l =
    l.values.items ++ map value_in (words_left l.words) ≡ map value_in (words_left l.fn.words)

abbrev pub decreases-loop-word : goal.decreases-loop-word
decreases-loop-word l = length (words_left l.words)
