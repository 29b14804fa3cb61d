use Rattle.std.proofs.Common.{arith, sym}
use Rattle.bit_table_layout.proofs.FieldLemmas.{width-bounds, is_field-parts}
use Rattle.bit_table_layout.proofs.field_word.FieldWord.parse.Goals as goal

pub returns-then-is_width-clause-lawful : goal.returns-then-is_width-clause-lawful
returns-then-is_width-clause-lawful c =
    let name = c.parts.result.0.now in
    let digits = c.in_ok-sign.digits.now in
    let bounds = width-bounds digits (sym c.if-is_width.ensures) in
    let width = c.number_up_to.result in
    is_field-parts name digits width (sym c.if-is_name.ensures) (sym c.if-is_width.ensures) (omega arith)
