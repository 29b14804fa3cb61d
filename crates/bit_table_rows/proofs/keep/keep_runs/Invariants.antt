use Rattle.std.proofs.Common.{◌-◌, ◌≤◌}
use Rattle.bit_addressing_memory.specs.Memory.{read_by}
use Rattle.bit_slice_views.specs.View.{view_bits}
use Rattle.bit_table_rows.specs.KeepSteps.{AtRow}
use Rattle.bit_table_rows.proofs.keep.keep_runs.Given as goal

abbrev pub invariant-rows : goal.invariant-rows
invariant-rows g l =
    let reading = read_by g.T.BitRegister g.O.Positions.position in
    record {
      at : AtRow reading l.fn.sweep l.sweep g.T.BitRegister.ZERO l.word l.first l.n l.w (view_bits reading l.off) l.k
          l.kept;
      inside : l.k ≤ l.n;
    }

abbrev pub decreases-rows : goal.decreases-rows
decreases-rows g l = l.n - l.k
