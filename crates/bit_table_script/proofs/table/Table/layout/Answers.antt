use Rattle.bit_table_script.proofs.TableLemmas.{is_table}
use Rattle.bit_table_script.proofs.table.Table.layout.Goals as goal

pub returns-clause-lawful : goal.returns-clause-lawful
returns-clause-lawful g c =
    let h = c.self.invariant in
    is_table _ c.self.inside.layout _ _ _ c.self.view_is h.0 h.1 h.2
