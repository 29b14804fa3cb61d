use Rattle.std.proofs.Common.{◌≡◌, ◌+◌, ◌-◌, ◌*◌, ◌≤◌, length, refl, ap, ◌∙◌, arith}
use Rattle.std.proofs.lemmas.Result.{err_from_is_err_and}
use Rattle.bit_table_layout.specs.Layouts.{row_width}
use Rattle.bit_table_layout.proofs.RowLemmas.{some_row_bits}
use Rattle.bit_table_rows.proofs.PlaceLemmas.{place_behind}
use Rattle.bit_table_script.specs.View.{TableView}
use Rattle.bit_table_script.proofs.RoomLemmas.{room_is, stored_same, view_same}
use Rattle.bit_table_script.proofs.TableLemmas.{few_rows, more_fit, most_rows, shape_is}
use Rattle.bit_table_script.proofs.table.Table.reserve.Goals as goal

pub reserve-requires : goal.reserve-requires
reserve-requires g c =
    let t = c.self.inside in
    let h = c.self.invariant in
    let all = more_fit _ t.layout _ _ _ c.self.view_is h.0 h.1 h.2 c.args.k c.requires in
    let more = place_behind t.rows c.args.k (row_width t.layout.fields) in
    rw c.row_bits.ensures.bits (omega (arith, h.1.fits, all, more))

pub reserve-requires-2 : goal.reserve-requires-2
reserve-requires-2 g c =
    let t = c.self.inside in
    let h = c.self.invariant in
    let all = more_fit _ t.layout _ _ _ c.self.view_is h.0 h.1 h.2 c.args.k c.requires in
    (omega arith, omega (arith, few_rows t.layout _ h.0 h.1 c.args.k all))

pub invariant_of-self : goal.invariant_of-self
invariant_of-self g c =
    let t = c.self.inside in
    let h = c.self.invariant in
    let same = c.reserve.ensures.same in (
      h.0,
      stored_same t.layout t.rows _ _ _ _ same.bits refl h.1,
      h.2,
      h.3,
      same.head ∙ h.4,
      record { within = h.5.within; bits = omega (arith, same.room, h.5.bits); letters = h.5.letters },
    )

pub invariant_of-self-in_err-reserve-2 : goal.invariant_of-self-in_err-reserve-2
invariant_of-self-in_err-reserve-2 g c =
    let t = c.self.inside in
    let h = c.self.invariant in
    let same = c.reserve.ensures.same in (
      h.0,
      stored_same t.layout t.rows _ _ _ _ same.bits c.reserve-2.ensures.sets h.1,
      h.2,
      h.3,
      same.head ∙ h.4,
      record {
        within = h.5.within;
        bits = omega (arith, same.room, h.5.bits);
        letters = omega (arith, h.5.letters, c.reserve-2.ensures.space);
      },
    )

pub invariant_of-self-2 : goal.invariant_of-self-2
invariant_of-self-2 g c =
    let t = c.self.inside in
    let h = c.self.invariant in
    let w = row_width t.layout.fields in
    let same = c.reserve.ensures.same in
    let enough = rw c.row_bits.ensures.bits at (c.in_ok-reserve.ensures).ok in
    let letters = (c.in_ok-reserve-2.ensures).ok in (
      h.0,
      stored_same t.layout t.rows _ _ _ _ same.bits c.reserve-2.ensures.sets h.1,
      h.2,
      h.3,
      same.head ∙ h.4,
      record {
        within = omega arith;
        bits = omega (arith, enough, ap length same.bits, h.1.fits, place_behind t.rows c.args.k w);
        letters = omega (arith, letters, ap length c.reserve-2.ensures.sets, h.1.marked);
      },
    )

pub returns-in_err-reserve-clause-err : goal.returns-in_err-reserve-clause-err
returns-in_err-reserve-clause-err g c =
    let t = c.self.inside in
    let p = err_from_is_err_and c.from_residual.result c.from_residual.ensures.1 in
    rw p.1 (view_same t.layout t.rows _ _ _ _ t.kept t.moved (t.space - t.rows) c.reserve.ensures.same.bits refl
    ∙ c.self.view_is)

pub returns-clause-shape : goal.returns-clause-shape
returns-clause-shape g c =
    let t = c.self.inside in
    let h = c.self.invariant in
    ap (λ (v : TableView). v.shape) (view_same t.layout t.rows _ _ _ _ t.kept t.moved 0 c.reserve.ensures.same.bits
    c.reserve-2.ensures.sets)
    ∙ shape_is _ t.layout _ _ _ c.self.view_is h.0 h.1 h.2

pub overflow_add-self : goal.overflow_add-self
overflow_add-self g c =
    let t = c.self.inside in
    let h = c.self.invariant in
    let all = more_fit _ t.layout _ _ _ c.self.view_is h.0 h.1 h.2 c.args.k c.requires in
    omega (arith, most_rows _ _ _ (some_row_bits t.layout h.0) all)
