use Rattle.std.proofs.Common.{◌≡◌, ◌+◌, length, refl, ap, ◌∙◌, arith}
use Rattle.bit_table_commands.specs.Edits.{edit}
use Rattle.bit_table_commands.specs.Tables.{IsTable, TableShape}
use Rattle.bit_table_commands.specs.declared.command.Command.TheVariants.{Delete}
use Rattle.bit_table_commands.proofs.CallerLemmas.{edit-is_table}
use Rattle.bit_table_script.proofs.AcceptedLemmas.{delete-accepted}
use Rattle.bit_table_tests.proofs.QueueLemmas.{one_less, one_more}
use Rattle.bit_table_tests.proofs.queue.pass_one.Goals as goal

pub unwrap-requires-2 : goal.unwrap-requires-2
unwrap-requires-2 g c =
    let t = c.args.table.now.shape in
    let insertion = c.args.insertion.now in
    let after : c.apply.new.self.shape ≡ edit t insertion = rw c.unwrap.ensures at c.apply.ensures.ok in
    let lawful : IsTable c.apply.new.self.shape =
    rw after (edit-is_table t c.rows-rows.ensures.lawful insertion c.requires.accepted) in
    let count : length c.apply.new.self.shape.rows ≡ length t.rows + 1 =
    rw after (one_more t insertion c.requires.insertion) in
    c.apply-2.ensures.succeeds refl (delete-accepted c.apply.new.self.shape 0 1 lawful (omega arith) (omega arith))

pub returns-clause-rows : goal.returns-clause-rows
returns-clause-rows g c =
    let t = c.args.table.now.shape in
    let insertion = c.args.insertion.now in
    let after : c.apply.new.self.shape ≡ edit t insertion = rw c.unwrap.ensures at c.apply.ensures.ok in
    let count : length c.apply.new.self.shape.rows ≡ length t.rows + 1 =
    rw after (one_more t insertion c.requires.insertion) in
    let gone : c.apply-2.new.self.shape ≡ edit c.apply.new.self.shape (Delete 0 1) =
    rw c.unwrap-2.ensures at c.apply-2.ensures.ok in
    ap (λ (u : TableShape). length u.rows) gone ∙ one_less c.apply.new.self.shape (length t.rows) count
