use Rattle.std.proofs.Common.{ap, ◌∙◌}
use Rattle.bit_table_commands.specs.Marks.{row_bears}
use Rattle.bit_table_script.specs.Told.{ones_from}
use Rattle.bit_table_script.proofs.MarkedLemmas.{ones-passing}
use Rattle.bit_table_script.proofs.table.Table.marked.Goals as goal

pub returns : goal.returns
returns g c =
    c.new.ensures ∙ c.in_ok-places_of_ones.ensures ∙ ap (ones_from 0) c.letter_bits.ensures.bits
    ∙ ones-passing (row_bears c.args.letter) 0 c.args.self.now.shape.rows
