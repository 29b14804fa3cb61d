use Rattle.std.proofs.Common.{rules}
use Rattle.std.specs.Prelude.{Some}
use Rattle.bits_c.proofs.RunLemmas.{begun_answer}
use Rattle.bits_c.proofs.table.answer_to.Goals as goal

pub returns-clause-begun : goal.returns-clause-begun
returns-clause-begun g c =
    let run = c.run-outcome in
    search (
      rules,
      begun_answer c.args.script.now c.into_inner.result.items (Some run.new.input.reader.now) run.result,
    )
