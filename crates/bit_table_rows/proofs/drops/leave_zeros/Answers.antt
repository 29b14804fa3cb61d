use Rattle.bit_addressing_memory.specs.Memory.{read_by}
use Rattle.bit_table_rows.proofs.DropLemmas.{zeros_left}
use Rattle.bit_table_rows.proofs.drops.leave_zeros.Goals as goal

pub returns : goal.returns
returns g c =
    zeros_left (read_by g.T.BitRegister g.O.Positions.position) c.args.list.now c.truncate.new.self c.fill.new.self
    c.args.left c.requires c.truncate.ensures c.fill.ensures.bits c.fill.ensures.frame
