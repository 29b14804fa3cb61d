use Rattle.std.proofs.Common.{◌*◌, Result, Ok, Err, IfOk, ap, sym, ◌∙◌}
use Rattle.std.specs.Prelude.{Some}
use Rattle.bit_addressing_memory.specs.Memory.{piece, read_by}
use Rattle.bit_containers_vector.specs.Vector.{vec_bits}
use Rattle.bit_table_layout.specs.Layouts.{row_width}
use Rattle.bit_table_layout.specs.Readings.{numbers_from}
use Rattle.bit_table_layout.specs.Rows.{new_row}
use Rattle.bit_table_rows.proofs.RowListCallerLemmas.{row_read}
use Rattle.bit_table_tests.proofs.field_callers.row_numbers.Goals as goal

if_ok : {T E : Type 0} {P Q : T → Type 0} (r : Result T E) → ((x : T) → P x → Q x) → IfOk r P → IfOk r Q
if_ok (Ok x) f is = f x is
if_ok (Err e) f is = is

pub returns : goal.returns
returns g c =
    let l = c.args.layout.now in
    let xs = vec_bits (read_by g.T.BitRegister g.O.Positions.position) c.args.rows.now in
    let w = row_width l.fields in
    if_ok c.load_row.result
    (λ numbers is.
    row_read l c.args.n xs c.requires.rows c.args.p c.requires.row
    ∙ ap (λ ns. Some (new_row ns))
    (sym (is
    ∙ ap (λ k. numbers_from l.rule l.fields (piece xs (c.args.p * k) w)) c.row_bits.ensures.bits))) c.load_row.ensures.value
