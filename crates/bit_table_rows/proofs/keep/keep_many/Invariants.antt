use Rattle.std.proofs.Common.{◌-◌, ◌≤◌}
use Rattle.bit_addressing_memory.specs.Memory.{memory, piece, read_by}
use Rattle.bit_addressing_memory.specs.Sweep.{sweep_words}
use Rattle.bit_table_rows.specs.KeepSteps.{Fills}
use Rattle.bit_table_rows.proofs.keep.keep_many.Given as goal

abbrev pub invariant-parts : goal.invariant-parts
invariant-parts g l =
    let reading = read_by g.T.BitRegister g.O.Positions.position in
    record {
      fills : Fills reading l.fn.sweep l.sweep l.fn.word l.next l.first l.to
          (piece (memory reading (sweep_words l.fn.sweep)) l.from l.done);
      inside : l.done ≤ l.len;
    }

abbrev pub decreases-parts : goal.decreases-parts
decreases-parts g l = l.len - l.done
