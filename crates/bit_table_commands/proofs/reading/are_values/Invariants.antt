use Rattle.std.proofs.Common.{◌≡◌, length}
use Rattle.bit_table_layout.specs.LineWordsLeft.{words_left}
use Rattle.bit_table_commands.specs.CommandSteps.{are_values}
use Rattle.bit_table_commands.proofs.reading.are_values.Given as goal

-- the answer for the words that are left is the answer
abbrev pub invariant-loop-word : goal.invariant-loop-word
invariant-loop-word l = are_values l.fn.count (words_left l.fn.words) ≡ are_values l.left (words_left l.words)

abbrev pub decreases-loop-word : goal.decreases-loop-word
decreases-loop-word l = length (words_left l.words)
