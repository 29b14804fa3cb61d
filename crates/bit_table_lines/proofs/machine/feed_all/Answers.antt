use Rattle.std.proofs.Common.{Err, [], ap, refl}
use Rattle.std.proofs.lemmas.Result.{on_ok_weaker}
use Rattle.bit_table_lines.proofs.GoingLemmas.{going_sent, cut_in_held, held_sent, held_cut}
use Rattle.bit_table_lines.proofs.Pieces.{at_error}
use Rattle.bit_table_lines.proofs.machine.feed_all.Goals as goal

pub returns-in-Ok-clause-going : goal.returns-in-Ok-clause-going
returns-in-Ok-clause-going g c =
    on_ok_weaker c.send.result
    (λ sent answers start text h. going_sent answers _ start _ _ _ [] _ _
    (c.in-Ok.ensures.going answers start text (rw c.requires.none h)) sent refl)
    c.send.ensures.sent

pub returns-in-Ok-clause-write : goal.returns-in-Ok-clause-write
returns-in-Ok-clause-write g c = λ e answers start text h b.
    cut_in_held answers _ start _ _ _ _ _
    (c.in-Ok.ensures.going answers start text (rw c.requires.none h))
    (at_error c.send.result _ c.send.ensures.part e)

pub returns-in_err-send-in-Err-Memory-clause-write : goal.returns-in_err-send-in-Err-Memory-clause-write
returns-in_err-send-in-Err-Memory-clause-write g c = λ e answers start text h b.
    held_cut answers start _ _ _ _
    (c.in-Err-Memory.ensures.memory (ap Err c.in-Err-Memory.field-0-is) answers start text (rw c.requires.none h))
    c.in_err-send-in-Err-Memory.ensures.part b

pub returns-in_ok-send-in-Err-Memory-clause-memory : goal.returns-in_ok-send-in-Err-Memory-clause-memory
returns-in_ok-send-in-Err-Memory-clause-memory g c = λ e answers start text h.
    held_sent answers start _ _ _ _
    (c.in-Err-Memory.ensures.memory (ap Err c.in-Err-Memory.field-0-is) answers start text (rw c.requires.none h))
    c.in_ok-send-in-Err-Memory.ensures.sent
