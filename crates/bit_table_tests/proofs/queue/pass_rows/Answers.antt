use Rattle.std.proofs.Common.{◌≡◌, None, ap, ◌∙◌, arith}
use Rattle.bit_table_commands.specs.Causes.{cause_in}
use Rattle.bit_table_commands.specs.declared.command.Command.TheVariants.{Insert}
use Rattle.bit_table_script.proofs.AcceptedLemmas.{insert-unkept}
use Rattle.bit_table_tests.proofs.QueueLemmas.{fits-one_more}
use Rattle.bit_table_tests.proofs.queue.pass_rows.Goals as goal

pub reserve-requires : goal.reserve-requires
reserve-requires g c =
    let t = c.args.table.now.shape in
    let insertion = Insert c.rows-place.result c.args.values in
    let none : cause_in t insertion ≡ None =
    insert-unkept t _ _ c.rows-place.result c.args.values _ c.rows.ensures.lawful c.layout.ensures.layout c.rows.ensures.rows c.in_default.is
    c.cause.ensures in
    (omega arith, fits-one_more t insertion tt none)

pub pass_through-requires : goal.pass_through-requires
pass_through-requires g c =
    let t = c.args.table.now.shape in
    let insertion = Insert c.rows-place.result c.args.values in
    let none : cause_in t insertion ≡ None =
    insert-unkept t _ _ c.rows-place.result c.args.values _ c.rows.ensures.lawful c.layout.ensures.layout c.rows.ensures.rows c.in_default.is
    c.cause.ensures in (
      omega arith,
      (tt, (ap (λ u. cause_in u insertion) c.reserve.ensures.shape ∙ none, (c.in_ok-reserve.ensures).ok)),
    )
