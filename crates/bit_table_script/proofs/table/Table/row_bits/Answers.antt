use Rattle.std.proofs.Common.{◌∙◌}
use Rattle.bit_table_script.proofs.TableLemmas.{bits_are}
use Rattle.bit_table_script.proofs.table.Table.row_bits.Goals as goal

pub returns-clause-bits : goal.returns-clause-bits
returns-clause-bits g c =
    let h = c.self.invariant in
    c.as_bitslice.ensures.bits ∙ bits_are _ c.self.inside.layout _ _ _ c.self.view_is h.0 h.1 h.2
