use Rattle.std.proofs.Common.{◌≡◌, ◌+◌, ◌-◌, ◌*◌, ◌≤◌, true, ap, ap₂, ◌∙◌, subst, sym, arith}
use Rattle.std.proofs.Math.Nat.{mul-le-mul_right}
use Rattle.bit_addressing_memory.specs.Memory.{read_by}
use Rattle.bit_slice_views.specs.View.{view_bits}
use Rattle.bit_table_layout.specs.Layouts.{LayoutShape, row_width}
use Rattle.bit_table_layout.specs.Readings.{rows_from}
use Rattle.bit_table_layout.specs.Rows.{new_row, numbers_bits, take_all}
use Rattle.bit_table_rows.specs.RowEdit.{added, count_after, WhereNew}
use Rattle.bit_table_rows.proofs.LetterEditLemmas.{count_most}
use Rattle.bit_table_rows.proofs.RowListCallerLemmas.{rows_after_edit}
use Rattle.bit_table_layout.proofs.RowLemmas.{some_row_bits}
use Rattle.bit_table_script.specs.RowCommands.{HasRowBits}
use Rattle.bit_table_script.specs.View.{TableView}
use Rattle.bit_table_script.proofs.MovedLemmas.{moved_by}
use Rattle.bit_table_script.proofs.RoomLemmas.{bits_fit, room_is}
use Rattle.bit_table_script.proofs.RowCommandLemmas.{few_taken}
use Rattle.bit_table_script.proofs.TableLemmas.{edit_fits, edit_lies, few_rows, layout_is, lies_in, marked_after}
use Rattle.bit_table_script.proofs.TableLemmas.{most_rows, shape_edited, where_new}
use Rattle.bit_table_script.proofs.table.Table.edit_within.Goals as goal

pub edit-requires : goal.edit-requires
edit-requires g c =
    let t = c.self.inside in
    let h = c.self.invariant in
    let e = c.args.edit in
    let r = edit_lies _ t.layout _ _ _ c.self.view_is h.0 h.1 h.2 e c.requires.range in
    let all = edit_fits _ t.layout _ _ _ c.self.view_is h.0 h.1 h.2 e c.requires.most in
    (omega arith, (lies_in t.layout _ h.0 h.1 e r, few_rows t.layout _ h.0 h.1 (added e) all))

pub edit_rows-requires-clause-range : goal.edit_rows-requires-clause-range
edit_rows-requires-clause-range g c =
    let t = c.self.inside in
    let h = c.self.invariant in
    edit_lies _ t.layout _ _ _ c.self.view_is h.0 h.1 h.2 c.args.edit c.requires.range

pub edit_rows-requires-clause-most : goal.edit_rows-requires-clause-most
edit_rows-requires-clause-most g c =
    let t = c.self.inside in
    let h = c.self.invariant in
    rw c.row_bits-width.ensures.bits
    (edit_fits _ t.layout _ _ _ c.self.view_is h.0 h.1 h.2 c.args.edit c.requires.most)

pub rows_after-self-inside-requires : goal.rows_after-self-inside-requires
rows_after-self-inside-requires g c =
    let t = c.self.inside in
    let h = c.self.invariant in
    let all = edit_fits _ t.layout _ _ _ c.self.view_is h.0 h.1 h.2 c.args.edit c.requires.most in
    omega (arith, most_rows _ _ _ (some_row_bits t.layout h.0) all)

pub invariant_of-self : goal.invariant_of-self
invariant_of-self g c =
    let t = c.self.inside in
    let h = c.self.invariant in
    let w = row_width t.layout.fields in
    let e = c.args.edit in
    let r = edit_lies _ t.layout _ _ _ c.self.view_is h.0 h.1 h.2 e c.requires.range in
    let all = edit_fits _ t.layout _ _ _ c.self.view_is h.0 h.1 h.2 e c.requires.most in
    let made = rw c.unwrap-rows.ensures at c.edit_rows.ensures.len in
    let letters = rw c.unwrap-letters.ensures at c.edit.ensures.ok in
    let count = marked_after t.layout _ h.0 h.1 e c.edit.new.self.sets r letters in
    let less : count_after t.rows e * w ≤ (t.rows + added e) * w = mul-le-mul_right w (count_most t.rows e) in (
      h.0,
      record {
        fits = made ∙ ap₂ (λ n k. n * k) (sym c.rows_after-self-inside.ensures) c.row_bits-width.ensures.bits;
        room = rw c.rows_after-self-inside.ensures (omega (arith, less, all));
        marked = rw c.rows_after-self-inside.ensures count;
      },
      h.2,
      h.3,
      c.edit_rows.ensures.head ∙ h.4,
      record {
        within =
            omega (
              arith,
              c.rows_after-self-inside.ensures,
              count_most t.rows e,
              c.requires.room,
              room_is c.self.view_is,
              h.5.within,
            );
        bits = omega (arith, c.edit_rows.ensures.room, h.5.bits);
        letters = omega (arith, c.edit.ensures.space, h.5.letters);
      },
    )

pub returns-clause-shape : goal.returns-clause-shape
returns-clause-shape g c vs holds =
    let t = c.self.inside in
    let h = c.self.invariant in
    let e = c.args.edit in
    let reading = read_by g.A.Store.BitRegister g.O.Positions.position in
    let ys = view_bits reading c.args.row in
    let r = edit_lies _ t.layout _ _ _ c.self.view_is h.0 h.1 h.2 e c.requires.range in
    let same = sym (layout_is _ t.layout _ _ _ c.self.view_is h.0 h.1 h.2) in
    let fits : WhereNew e (take_all t.layout.fields vs ≡ true) =
    where_new e (λ (x : HasRowBits _ vs ys). subst (λ (l : LayoutShape). take_all l.fields vs ≡ true) same x.taken) holds in
    let are : WhereNew e (ys ≡ numbers_bits t.layout.rule t.layout.fields vs) =
    where_new e (λ (x : HasRowBits _ vs ys). subst (λ (l : LayoutShape). ys ≡ numbers_bits l.rule l.fields vs) same x.are)
    holds in
    let made = rw c.unwrap-rows.ensures at c.edit_rows.ensures.bits in
    let bits = rw c.row_bits-width.ensures.bits at made in
    shape_edited _ t.layout _ _ _ c.self.view_is h.0 h.1 h.2 e (new_row vs) _ r
    (ap₂ (rows_from t.layout) c.rows_after-self-inside.ensures bits
    ∙ rows_after_edit t.layout t.rows _ h.1.fits e vs ys h.0 r fits are)
    (rw c.unwrap-letters.ensures at c.edit.ensures.ok)

pub returns-clause-moved : goal.returns-clause-moved
returns-clause-moved g c =
    let t = c.self.inside in
    let h = c.self.invariant in
    let told = c.writes_told-self-inside.ensures in
    let before = ap (λ (v : TableView). v.moved) c.self.view_is in
    let wrote = rw c.unwrap-rows.ensures at c.edit_rows.ensures.writes in
    let few = rw c.row_bits-width.ensures.bits at wrote in
    moved_by _ t.layout _ _ _ c.self.view_is h.0 h.1 h.2 _ c.args.edit _ _ _ told.moves (λ still. told.rests still ∙ before)
    few (rw c.unwrap-letters.ensures at c.edit.ensures.writes)

pub returns-clause-room : goal.returns-clause-room
returns-clause-room g c =
    let t = c.self.inside in
    let h = c.self.invariant in
    let e = c.args.edit in
    let r = edit_lies _ t.layout _ _ _ c.self.view_is h.0 h.1 h.2 e c.requires.range in
    omega (
      arith,
      c.rows_after-self-inside.ensures,
      few_taken e t.rows r,
      c.requires.room,
      room_is c.self.view_is,
      h.5.within,
    )

-- there is memory for the rows that come, in the letters' lists and in that of the rows
pub unwrap-letters-requires : goal.unwrap-letters-requires
unwrap-letters-requires g c =
    let t = c.self.inside in
    let h = c.self.invariant in
    c.edit.ensures.succeeds
    (omega (arith, h.1.marked, c.requires.room, room_is c.self.view_is, h.5.within, h.5.letters))

pub unwrap-rows-requires : goal.unwrap-rows-requires
unwrap-rows-requires g c =
    let t = c.self.inside in
    let h = c.self.invariant in
    let w = row_width t.layout.fields in
    let few : added c.args.edit ≤ t.space - t.rows = omega (arith, c.requires.room, room_is c.self.view_is) in
    let fit = bits_fit t.rows t.space w _ _ (added c.args.edit) h.5 few in
    c.edit_rows.ensures.succeeds (rw c.row_bits-width.ensures.bits (omega (arith, h.1.fits, fit)))
