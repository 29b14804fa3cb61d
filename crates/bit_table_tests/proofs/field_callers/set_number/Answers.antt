use Rattle.std.proofs.Common.{◌≡◌, ℕ, ℤ, ◌+◌, ◌*◌, get_or, length, refl, ap, ap₂, ◌∙◌}
use mir.Syntax.{w128}
use Rattle.std.specs.Prelude.{Some, slice_get}
use Rattle.std.proofs.lemmas.Int.{to_z-of_z}
use Rattle.std.proofs.lemmas.Option.{slice_get_read}
use Rattle.bit_addressing_memory.specs.Memory.{read_by, with_piece}
use Rattle.bit_containers_vector.specs.Vector.{vec_bits}
use Rattle.bit_table_layout.specs.declared.layout.Rule.{Rule}
use Rattle.bit_table_layout.specs.Readings.{rows_from}
use Rattle.bit_table_layout.specs.Rows.{field_bits}
use Rattle.bit_table_rows.proofs.RowListCallerLemmas.{rows_after_set}
use Rattle.bit_table_tests.proofs.field_callers.set_number.Goals as goal

same_bits : {r rule : Rule} {k w : ℕ} {u v : ℤ} → r ≡ rule → k ≡ w → u ≡ v → field_bits r k u ≡ field_bits rule w v
same_bits p q e = rw (p, q, e) refl

pub returns-clause-rows : goal.returns-clause-rows
returns-clause-rows g c =
    let l = c.args.layout.now in
    let xs = vec_bits (read_by g.T.BitRegister g.O.Positions.position) c.args.rows.now in
    let f = c.index-fields-field.result in
    let there : slice_get l.fields c.args.field ≡ Some f =
    slice_get_read l.fields (length l.fields) c.args.field f refl c.requires.field
    (c.index-fields-field.is ∙ ap (λ (fs : _). get_or fs c.args.field f) c.fields.ensures.fields) in
    let at = ap₂ (λ a b. c.args.p * a + b) c.row_bits.ensures.bits c.bits_before.ensures in
    let number = to_z-of_z w128 c.args.value c.ranges.value in
    ap (rows_from l c.args.n)
    (c.store_number.ensures.bits
    ∙ ap₂ (with_piece xs) at (same_bits c.rule.ensures c.width-width.ensures.width number))
    ∙ rows_after_set l c.args.n xs c.requires.rows c.args.p c.args.field f c.args.value c.row_bits.ensures.lawful
    c.requires.row there (c.requires.takes f there)
