use Rattle.std.proofs.Common.{◌∙◌, ap, length}
use mir.Syntax.{w128}
use Rattle.std.proofs.lemmas.Int.{to_z-of_z}
use Rattle.bit_table_fields.proofs.WindowLemmas.{whole_stored}
use Rattle.bit_table_layout.specs.Rows.{field_bits}
use Rattle.bit_table_layout.specs.declared.layout.Rule.TheVariants.{Low}
use Rattle.bit_table_fields.proofs.digits.Digits.store_low.Goals as goal

pub returns-clause-bits : goal.returns-clause-bits
returns-clause-bits g c =
    let xs = g.V.Bits.bits c.args.view.now in
    c.store_low_at.ensures.bits
    ∙ whole_stored Low c.len-width.result _ xs c.len-width.ensures
    ∙ ap (field_bits Low (length xs)) (to_z-of_z w128 c.args.value c.ranges.value)
