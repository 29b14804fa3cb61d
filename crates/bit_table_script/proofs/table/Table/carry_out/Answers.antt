use Rattle.std.proofs.Common.{ap, sym, ◌∙◌, rules}
use mir.Syntax.{w128}
use Rattle.std.proofs.lemmas.Int.{to_z-of_z}
use Rattle.bit_table_commands.specs.declared.command.Command.TheVariants.{Mark}
use Rattle.bit_table_commands.specs.Edits.{edit}
use Rattle.bit_table_script.proofs.table.Table.carry_out.Goals as goal

pub returns-in-Mark-clause-ok : goal.returns-in-Mark-clause-ok
returns-in-Mark-clause-ok g c =
    let w = c.in-Mark in
    c.mark.ensures.shape
    ∙ ap (λ v. edit c.args.self.now.shape (Mark w.letter w.field w.test v)) (to_z-of_z w128 w.value (search rules))
    ∙ ap (edit c.args.self.now.shape) (sym w.is)
