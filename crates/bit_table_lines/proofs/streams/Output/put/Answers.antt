use Rattle.std.proofs.Common.{rules, arith}
use Rattle.std.proofs.lemmas.Grind.{common_steps}
use Rattle.bit_table_lines.proofs.Sending.{has_sent_more}
use Rattle.bit_table_lines.proofs.streams.Output.put.Goals as goal

pub loop-rest-preserved : goal.loop-rest-preserved
loop-rest-preserved g c = record {
  sent = has_sent_more _ _ _ _ _ _ c.in-Ok.count c.loop-rest.invariant.sent c.in-Ok.ensures.bytes
      (grind (arith, common_steps));
  working = search rules;
}
