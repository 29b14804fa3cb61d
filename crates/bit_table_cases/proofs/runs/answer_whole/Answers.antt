use Rattle.std.proofs.lemmas.Result.{on_ok_weaker}
use Rattle.bit_table_script.proofs.CallerLemmas.{script_answer-to_end}
use Rattle.bit_table_cases.proofs.runs.answer_whole.Goals as goal

pub returns : goal.returns
returns g c = on_ok_weaker c.run.result (λ ended. script_answer-to_end _ _ _ _ ended) c.run.ensures.done
