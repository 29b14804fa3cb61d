use Rattle.std.proofs.Common.{◌≡◌, ◌<◌, Result, Ok, Err, OnOk, false, [], ◌∷◌, ap, ◌∙◌, arith}
use Rattle.bit_addressing_memory.specs.Memory.{piece, read_by}
use Rattle.bit_containers_vector.specs.Vector.{vec_bits}
use Rattle.bit_slice_views.specs.View.{view_bits}
use Rattle.bit_table_rows.specs.RowEdit.{bits_edited_by}
use Rattle.bit_table_rows.proofs.ListLemmas.{bits_edited_one, first_zero}
use Rattle.bit_table_rows.proofs.lists.edit_by_rows.Goals as goal

on_ok : {T E P Q : Type 0} (r : Result T E) → (P → Q) → OnOk r P → OnOk r Q
on_ok (Ok x) f is = f is
on_ok (Err e) f is = is

-- a new row is the one bit 0
pub returns-clause-ok : goal.returns-clause-ok
returns-clause-ok g c =
    let reading = read_by g.T.BitRegister g.O.Positions.position in
    let xs = vec_bits reading c.args.list.now in
    let zeros = c.no_digits-zeros.result in
    let some : 0 < reading.bits = omega (arith, g.met.T.BitRegister.least_bits) in
    let row : view_bits reading c.part-row.result ≡ false ∷ [] =
    c.part-row.ensures.bits ∙ ap (λ bits. piece bits 0 1) c.from_element.ensures.bits
    ∙ first_zero reading zeros some (c.no_digits-zeros.ensures 0 some) in
    on_ok c.edit_rows.result
    (λ is. record {
      bits =
          is ∙ ap (λ ys. bits_edited_by 1 ys c.args.edit xs) row
          ∙ bits_edited_one c.args.edit false xs c.args.n c.requires.column.len c.requires.range;
      head = c.edit_rows.ensures.head;
      room = c.edit_rows.ensures.room;
    })
    c.edit_rows.ensures.bits
