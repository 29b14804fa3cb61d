use Rattle.std.proofs.Common.{◌≡◌, ◌+◌, ◌*◌, ◌≤◌, length, subst, sym, arith}
use Rattle.std.proofs.lemmas.Bool.{false≢true}
use Rattle.bit_addressing_memory.specs.Memory.{read_by}
use Rattle.bit_slice_views.specs.View.{view_bits}
use Rattle.bit_table_layout.specs.declared.layout.TheConstants.{MAX_BITS}
use Rattle.bit_table_layout.specs.Layouts.{row_width}
use Rattle.bit_table_layout.specs.Rows.{new_row}
use Rattle.bit_table_commands.specs.Tables.{TableShape}
use Rattle.bit_table_rows.specs.RowEdit.{added, edited_by, LiesIn, WhereNew}
use Rattle.bit_table_script.specs.RowCommands.{HasRowBits}
use Rattle.bit_table_script.proofs.RoomLemmas.{moved_from}
use Rattle.bit_table_script.proofs.table.Table.edit_rows.Goals as goal

pub reserve-requires : goal.reserve-requires
reserve-requires g c = (omega arith, rw c.rows_added.ensures c.requires.most)

pub returns-in_err-reserve-clause-succeeds : goal.returns-in_err-reserve-clause-succeeds
returns-in_err-reserve-clause-succeeds g c few =
    absurd (false≢true ((c.in_err-reserve.ensures).succeeds (omega (arith, few, c.rows_added.ensures))))

-- the rows are the same once there is room
pub edit_within-requires : goal.edit_within-requires
edit_within-requires g c =
    let reading = read_by g.A.Store.BitRegister g.O.Positions.position in
    let e = c.args.edit in
    let same = sym c.reserve.ensures.shape in (
      omega arith,
      (
        subst (λ (s : TableShape). LiesIn (length s.rows) e) same c.requires.range,
        (
          subst (λ (s : TableShape). (length s.rows + added e) * row_width s.layout.fields ≤ MAX_BITS) same c.requires.most,
          (
            subst
                (λ (s : TableShape). WhereNew e (length (view_bits reading c.args.row) ≡ row_width s.layout.fields))
                same c.requires.width,
            omega (arith, (c.in_ok-reserve.ensures).ok, c.rows_added.ensures),
          ),
        ),
      ),
    )

pub returns-clause-ok : goal.returns-clause-ok
returns-clause-ok g c vs =
    let reading = read_by g.A.Store.BitRegister g.O.Positions.position in
    let e = c.args.edit in
    subst
    (λ (s : TableShape). WhereNew e (HasRowBits s.layout vs (view_bits reading c.args.row))
    → c.edit_within.new.self.shape ≡ record s { rows = edited_by (new_row vs) e s.rows })
    c.reserve.ensures.shape (c.edit_within.ensures.shape vs)

pub returns-clause-moved : goal.returns-clause-moved
returns-clause-moved g c =
    moved_from _ c.args.self.now c.reserve.new.self c.args.edit _ c.reserve.ensures.shape c.reserve.ensures.moved
    c.edit_within.ensures.moved

pub returns-clause-room : goal.returns-clause-room
returns-clause-room g c = omega (arith, c.reserve.ensures.room, c.edit_within.ensures.room)
