use Rattle.bit_table_commands.proofs.CutLemmas.{cut_off-acts}
use Rattle.bit_table_commands.proofs.cause.cutting_off_changes_nothing.Goals as goal

pub returns : goal.returns
returns c = cut_off-acts
