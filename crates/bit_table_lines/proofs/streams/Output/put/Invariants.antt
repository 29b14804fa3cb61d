use Rattle.std.proofs.Common.{◌≡◌, length}
use Rattle.bit_table_lines.proofs.Sending.{HasSent}
use Rattle.bit_table_lines.proofs.streams.Output.put.Given as goal

abbrev pub invariant-loop-rest : goal.invariant-loop-rest
invariant-loop-rest g l =
    let contents = g.W.Write.contents in
    record {
      sent : HasSent (contents l.fn.self.writer) (contents l.self.writer) l.fn.bytes l.rest;
      working : l.self.failed ≡ l.fn.self.failed;
    }

abbrev pub decreases-loop-rest : goal.decreases-loop-rest
decreases-loop-rest g l = length l.rest
