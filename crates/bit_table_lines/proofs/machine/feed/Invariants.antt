use Rattle.std.proofs.Common.{◌≡◌, ℕ, ◌-◌, ◌≤◌, List, ◌++◌, take, drop, Option, false}
use Rattle.bit_table_lines.specs.Going.{Going}
use Rattle.bit_table_lines.proofs.machine.feed.Given as goal

-- whatever text was read before, the bytes before this one have joined it, and those from `from` on go on the line
abbrev pub invariant-loop-at : goal.invariant-loop-at
invariant-loop-at g l =
    let contents = g.W.Write.contents in
    let answered = g.M.LineMachine.answers in
    record {
      going : (answers : List (List ℕ) → List ℕ) (start : Option (List ℕ)) (text : List ℕ)
          → Going answers (answered l.fn.machine) start (contents l.fn.output.writer) l.fn.held.items text
          l.fn.line.items
          → Going answers (answered l.machine) start (contents l.output.writer) l.held.items
          (text ++ take l.at l.piece) (l.line.items ++ take (l.at - l.from) (drop l.from l.piece));
      order : l.from ≤ l.at;
      working : l.output.failed ≡ false;
    }
