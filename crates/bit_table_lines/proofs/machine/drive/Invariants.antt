use Rattle.std.proofs.Common.{◌≡◌, [], false}
use Rattle.bit_table_lines.proofs.ReachedLemmas.{Reached, TookAtLeast}
use Rattle.bit_table_lines.proofs.machine.drive.Given as goal

abbrev pub invariant-reads : goal.invariant-reads
invariant-reads g l =
    let remaining = g.R.Read.remaining in
    let contents = g.W.Write.contents in
    let answered = g.M.LineMachine.answers in
    record {
      reached : Reached (answered l.fn.machine) (answered l.machine)
          (remaining l.fn.input.reader) (remaining l.input.reader)
          (contents l.fn.output.writer) (contents l.output.writer) l.line.items;
      took : TookAtLeast (remaining l.fn.input.reader) (remaining l.input.reader) l.counter;
      none : l.held.items ≡ [];
      reading : l.input.failed ≡ false;
      writing : l.output.failed ≡ false;
    }
