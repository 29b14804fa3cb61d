use Rattle.std.proofs.Common.{◌≡◌, ◌*◌, ◌≤◌, Result, Ok, Err, OnOk, length, take, ap, refl, ◌∙◌, subst, arith}
use Rattle.bit_addressing_memory.specs.Memory.{piece, read_by}
use Rattle.bit_containers_array.specs.Array.{array_bits}
use Rattle.bit_slice_views.specs.View.{view_bits}
use Rattle.bit_table_layout.specs.Layouts.{LayoutShape, row_width}
use Rattle.bit_table_layout.specs.Rows.{numbers_bits}
use Rattle.bit_table_layout.specs.declared.layout.TheConstants.{MAX_BITS}
use Rattle.bit_table_script.specs.RowCommands.{HasRowBits}
use Rattle.bit_table_script.proofs.TableLemmas.{front_is, layout_is, length-one_more}
use Rattle.bit_table_script.proofs.table.Table.insert.Goals as goal

on_ok : {T E P Q : Type 0} (r : Result T E) → (P → Q) → OnOk r P → OnOk r Q
on_ok (Ok x) f is = f is
on_ok (Err e) f is = is

pub edit_rows-requires : goal.edit_rows-requires
edit_rows-requires g c =
    let t = c.self.inside in
    let h = c.self.invariant in
    let v = c.args.self.now.shape in
    let most = subst (λ n. n * row_width v.layout.fields ≤ MAX_BITS)
    (length-one_more v.rows (length v.rows) c.args.place _ refl c.requires.in_range) c.requires.room in
    let wide = c.part.ensures.len ∙ c.row_bits-width.ensures.bits
    ∙ ap (λ (l : LayoutShape). row_width l.fields) (layout_is _ t.layout _ _ _ c.self.view_is h.0 h.1 h.2) in
    (omega arith, (c.requires.in_range, (most, wide)))

pub returns-clause-ok : goal.returns-clause-ok
returns-clause-ok g c =
    let t = c.self.inside in
    let h = c.self.invariant in
    let vs = c.args.values.now in
    let reading = read_by g.A.Store.BitRegister g.O.Positions.position in
    let buffer = array_bits reading g.A.BitViewSized.words c.row_of-buffer.result in
    let row : view_bits reading c.part.result ≡ numbers_bits t.layout.rule t.layout.fields vs =
    c.part.ensures.bits
    ∙ ap (λ xs. piece xs 0 c.row_bits-width.result) c.as_bitslice.ensures.bits
    ∙ front_is buffer c.row_bits-width.result
    ∙ ap (λ k. take k buffer) c.row_bits-width.ensures.bits
    ∙ c.row_of-buffer.ensures.bits in
    let has : HasRowBits c.args.self.now.shape.layout vs (view_bits reading c.part.result) = record {
      taken = c.requires.values.taken;
      are =
          subst (λ (l : LayoutShape). view_bits reading c.part.result ≡ numbers_bits l.rule l.fields vs)
          (layout_is _ t.layout _ _ _ c.self.view_is h.0 h.1 h.2) row;
    } in
    on_ok c.edit_rows.result (λ is. is vs has) c.edit_rows.ensures.ok
