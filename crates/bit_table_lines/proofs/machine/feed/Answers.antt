use Rattle.std.proofs.Common.{rules, ◌≡◌, ◌+◌, [], ◌++◌, take, ap, subst, ◌∙◌, arith}
use Rattle.bit_table_lines.specs.Going.{Going}
use Rattle.bit_table_lines.proofs.Pieces.{feed_end, feed_more, feed_cut, feed_stopped, run, run_none, run_more}
use Rattle.bit_table_lines.proofs.GoingLemmas.{going_sent}
use Rattle.bit_table_lines.proofs.machine.feed.Goals as goal
use Rattle.bit_table_lines.proofs.machine.feed.Goals.{then-piece-at-eq10+in_ok-map_err+in_ok-hold_answer+then-len-ge-PIECE+in_ok-send}
use Rattle.bit_table_lines.proofs.machine.feed.Goals.{then-piece-at-eq10+in_ok-map_err+in_ok-hold_answer+else-len-ge-PIECE}
use Rattle.bit_table_lines.proofs.machine.feed.Goals.{else-piece-at-eq10}

pub returns-in_err-map_err-clause-memory : goal.returns-in_err-map_err-clause-memory
returns-in_err-map_err-clause-memory g c = λ e answers start text h.
    feed_stopped answers _ start _ _ text c.args.piece.now _ c.loop-at.at
    (c.loop-at.invariant.going answers start text h)

pub returns-in_err-map_err-2-clause-memory : goal.returns-in_err-map_err-2-clause-memory
returns-in_err-map_err-2-clause-memory g c = λ e answers start text h.
    feed_stopped answers _ start _ _ text c.args.piece.now _ c.loop-at.at
    (c.loop-at.invariant.going answers start text h)

pub returns-in_err-hold_answer-clause-memory : goal.returns-in_err-hold_answer-clause-memory
returns-in_err-hold_answer-clause-memory g c = λ e answers start text h.
    let same = c.in_err-hold_answer.ensures.err in
    rw same
    (feed_stopped answers _ start _ _ text c.args.piece.now _ c.loop-at.at
    (c.loop-at.invariant.going answers start text h))

pub returns-in_err-send-clause-write : goal.returns-in_err-send-clause-write
returns-in_err-send-clause-write g c = λ e answers start text h b.
    let line : c.as_slice.result.now ≡ c.loop-at.line.items ++ run c.args.piece.now c.loop-at.from c.loop-at.at =
    search rules in
    feed_cut answers _ start _ _ _ text c.args.piece.now [] (c.loop-at.at + 1)
    (feed_end answers _ _ start _ _ text c.args.piece.now
    (c.loop-at.line.items ++ run c.args.piece.now c.loop-at.from c.loop-at.at) _ c.loop-at.at
    c.loop-at-test.true (search rules) (c.loop-at.invariant.going answers start text h)
    (rw line at c.in_ok-hold_answer.ensures.answered)
    (rw line at c.in_ok-hold_answer.ensures.next)) b
    c.in_err-send.ensures.part

pub loop-at-preserved : goal.loop-at-preserved
loop-at-preserved g c =
    let piece = c.args.piece.now in
    let at = c.loop-at.at in
    let line = c.loop-at.line.items ++ run piece c.loop-at.from at in
    elim c.if-piece-at-eq10.branch [
      | then-piece-at-eq10+in_ok-map_err+in_ok-hold_answer+then-len-ge-PIECE+in_ok-send w ↦ record {
        going = λ answers start text h.
            let whole : w.as_slice.result.now ≡ line = search rules in
            let none =
            run_none c.if-piece-at-eq10.line.items piece c.if-piece-at-eq10.from (at + 1)
            (ap (λ v. v.items) w.line-is ∙ w.clear.ensures.items) w.from-is in
            subst (λ l. Going answers (g.M.LineMachine.answers c.if-piece-at-eq10.machine) start
            (g.W.Write.contents c.if-piece-at-eq10.output.writer) c.if-piece-at-eq10.held.items
            (text ++ take (at + 1) piece) l) none
            (rw (w.output-is, w.machine-is, w.held-is)
            (going_sent answers _ start _ _ _ _ _ _
            (feed_end answers _ _ start _ _ text piece line _ at
            c.loop-at-test.true (search rules) (c.loop-at.invariant.going answers start text h)
            (rw whole at w.in_ok-hold_answer.ensures.answered)
            (rw whole at w.in_ok-hold_answer.ensures.next))
            w.in_ok-send.ensures.sent w.in_ok-send.ensures.none));
        order = omega (arith, w.from-is);
        working = search rules;
      }
      | then-piece-at-eq10+in_ok-map_err+in_ok-hold_answer+else-len-ge-PIECE w ↦ record {
        going = λ answers start text h.
            let whole : w.as_slice.result.now ≡ line = search rules in
            let none =
            run_none c.if-piece-at-eq10.line.items piece c.if-piece-at-eq10.from (at + 1)
            (ap (λ v. v.items) w.line-is ∙ w.clear.ensures.items) w.from-is in
            subst (λ l. Going answers (g.M.LineMachine.answers c.if-piece-at-eq10.machine) start
            (g.W.Write.contents c.if-piece-at-eq10.output.writer) c.if-piece-at-eq10.held.items
            (text ++ take (at + 1) piece) l) none
            (rw (w.output-is, w.machine-is, w.held-is)
            (feed_end answers _ _ start _ _ text piece line _ at
            c.loop-at-test.true (search rules) (c.loop-at.invariant.going answers start text h)
            (rw whole at w.in_ok-hold_answer.ensures.answered)
            (rw whole at w.in_ok-hold_answer.ensures.next)));
        order = omega (arith, w.from-is);
        working = search rules;
      }
      | else-piece-at-eq10 w ↦ record {
        going = λ answers start text h. rw (w.output-is, w.line-is, w.machine-is, w.held-is, w.from-is)
            (feed_more answers _ start _ _ text piece line (c.loop-at.line.items ++ run piece c.loop-at.from (at + 1)) at
            c.loop-at-test.true (search rules) (c.loop-at.invariant.going answers start text h)
            (run_more c.loop-at.line.items piece c.loop-at.from at c.loop-at.invariant.order c.loop-at-test.true));
        order = omega (arith, w.from-is, c.loop-at.invariant.order);
        working = search rules;
      }
    ]
