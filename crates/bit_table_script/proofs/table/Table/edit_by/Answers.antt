use Rattle.std.proofs.Common.{Result, Ok, Err, IfOk, OnOk, [], ◌∙◌, arith}
use Rattle.bit_table_layout.specs.Rows.{new_row}
use Rattle.bit_table_script.proofs.RowCommandLemmas.{does_all}
use Rattle.bit_table_script.proofs.table.Table.edit_by.Goals as goal

on_ok : {T E P Q : Type 0} (r : Result T E) → (P → Q) → OnOk r P → OnOk r Q
on_ok (Ok x) f is = f is
on_ok (Err e) f is = is

if_ok : {T E : Type 0} {P Q : T → Type 0} (r : Result T E) → ((x : T) → P x → Q x) → IfOk r P → IfOk r Q
if_ok (Ok x) f is = f x is
if_ok (Err e) f is = is

pub edit_rows-requires : goal.edit_rows-requires
edit_rows-requires g c =
    let d = does_all c.args.row_edit c.args.command.now c.requires.edit in (
      omega arith,
      (
        d.lies _ c.requires.accepted.in_range,
        (
          d.fits c.args.self.now.shape c.requires.accepted.in_range c.rows-rows.ensures.lawful.rows.room
              c.requires.accepted.room,
          d.no_row _,
        ),
      ),
    )

pub returns-clause-succeeds : goal.returns-clause-succeeds
returns-clause-succeeds g c few =
    let none = (does_all c.args.row_edit c.args.command.now c.requires.edit).succeeds few in
    c.edit_rows.ensures.succeeds (omega (arith, none))

pub returns-clause-within : goal.returns-clause-within
returns-clause-within g c is =
    c.edit_rows.ensures.succeeds ((does_all c.args.row_edit c.args.command.now c.requires.edit).within c.args.self.now is)

pub returns-clause-room : goal.returns-clause-room
returns-clause-room g c =
    let d = does_all c.args.row_edit c.args.command.now c.requires.edit in
    on_ok c.edit_rows.result (d.rooms c.args.self.now _) c.edit_rows.ensures.room

pub returns-clause-ok : goal.returns-clause-ok
returns-clause-ok g c =
    let d = does_all c.args.row_edit c.args.command.now c.requires.edit in
    on_ok c.edit_rows.result (λ is. is [] (d.no_row _) ∙ d.does c.args.self.now.shape (new_row [])) c.edit_rows.ensures.ok

pub returns-clause-reply : goal.returns-clause-reply
returns-clause-reply g c =
    let d = does_all c.args.row_edit c.args.command.now c.requires.edit in
    if_ok c.edit_rows.result (λ reply is. is ∙ d.replies c.args.self.now.shape) c.edit_rows.ensures.reply

pub returns-clause-moved : goal.returns-clause-moved
returns-clause-moved g c =
    let d = does_all c.args.row_edit c.args.command.now c.requires.edit in
    on_ok c.edit_rows.result (d.moves _ c.args.self.now _) c.edit_rows.ensures.moved
