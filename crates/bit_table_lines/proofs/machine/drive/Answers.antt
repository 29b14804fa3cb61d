use Rattle.std.proofs.Common.{rules, take}
use Rattle.std.proofs.lemmas.Result.{err_from_is_err_and, on_ok_weaker}
use Rattle.std.proofs.KnownBytes.{Keeps-refl}
use Rattle.bit_table_lines.proofs.ReachedLemmas.{reached_start, reached_more, reached_end, reached_read, reached_write}
use Rattle.bit_table_lines.proofs.ReachedLemmas.{reached_memory, reached_write_last, took_more, took_none}
use Rattle.bit_table_lines.proofs.machine.drive.Goals as goal

pub reads-init : goal.reads-init
reads-init g c = record {
  reached = rw c.new-line.ensures.items (reached_start _ _ _ (g.met.M.LineMachine.none _));
  took = took_none _;
  none = c.new-held.ensures.items;
  reading = c.requires.readable;
  writing = c.requires.writable;
}

pub returns-then-count-eq0-clause-done : goal.returns-then-count-eq0-clause-done
returns-then-count-eq0-clause-done g c =
    on_ok_weaker c.write_answer.result
    (λ a. reached_end _ _ _ _ _ _ _ _ (take c.in_ok-count.count c.read.new.piece) _ c.reads.invariant.reached
    c.in_ok-count.ensures.bytes.0 (search rules) (c.in_ok-count.ensures.bytes.1 (search rules) (search rules)) a)
    (rw c.as_slice.ensures.value at c.write_answer.ensures.answered)

pub returns-then-count-eq0-clause-write : goal.returns-then-count-eq0-clause-write
returns-then-count-eq0-clause-write g c = λ e.
    reached_write_last _ _ _ _ _ _ _ _ (take c.in_ok-count.count c.read.new.piece) _ c.reads.invariant.reached
    c.in_ok-count.ensures.bytes.0 (search rules) (c.in_ok-count.ensures.bytes.1 (search rules) (search rules))
    (rw c.as_slice.ensures.value at (c.write_answer.ensures.write e))

pub returns-in_err-feed_all-clause-write : goal.returns-in_err-feed_all-clause-write
returns-in_err-feed_all-clause-write g c = λ e.
    let p = err_from_is_err_and c.from_residual-in_err-feed_all.result c.from_residual-in_err-feed_all.ensures.1 in
    reached_write _ _ _ _ _ _ _ _ (take c.in_ok-count.count c.read.new.piece) _ c.reads.invariant.reached
    c.in_ok-count.ensures.bytes.0 (g.met.M.LineMachine.goes_on _)
    (c.in_err-feed_all.ensures.write (let q = p.1 in let r = p.2 in cc))

pub returns-in_err-feed_all-clause-memory : goal.returns-in_err-feed_all-clause-memory
returns-in_err-feed_all-clause-memory g c = λ e.
    let p = err_from_is_err_and c.from_residual-in_err-feed_all.result c.from_residual-in_err-feed_all.ensures.1 in
    reached_memory _ _ _ _ _ _ _ _ (take c.in_ok-count.count c.read.new.piece) _ c.reads.invariant.reached
    c.in_ok-count.ensures.bytes.0
    (c.in_err-feed_all.ensures.memory (let q = p.1 in let r = p.2 in cc))

pub feed_all-requires-clause-none : goal.feed_all-requires-clause-none
feed_all-requires-clause-none g c = c.reads.invariant.none

pub returns-in_err-count-clause-read : goal.returns-in_err-count-clause-read
returns-in_err-count-clause-read g c = λ e.
    reached_read _ _ _ _ _ _ _ _ c.reads.invariant.reached c.in_err-count.ensures.bytes

pub returns-clause-read : goal.returns-clause-read
returns-clause-read g c = λ e.
    reached_read _ _ _ _ _ _ _ _ c.reads.invariant.reached (Keeps-refl _)

pub reads-preserved : goal.reads-preserved
reads-preserved g c = record {
  reached = reached_more _ _ _ _ _ _ _ _ _ (take c.in_ok-count.count c.read.new.piece) _ _ c.reads.invariant.reached
      c.in_ok-count.ensures.bytes.0 c.in_ok-feed_all.ensures.going;
  took = took_more _ _ _ (take c.in_ok-count.count c.read.new.piece) c.reads.counter c.reads.invariant.took
      c.in_ok-count.ensures.bytes.0 (search rules);
  none = c.in_ok-feed_all.ensures.none;
  reading = search rules;
  writing = search rules;
}
