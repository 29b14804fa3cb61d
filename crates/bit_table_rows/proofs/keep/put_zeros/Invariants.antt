use Rattle.std.proofs.Common.{◌≡◌, ℕ, ◌+◌, ◌/◌, ◌≤◌, List, length}
use Rattle.bit_addressing_memory.specs.Memory.{entry, read_by}
use Rattle.bit_addressing_memory.specs.Moves.{changed}
use Rattle.bit_addressing_memory.specs.Sweep.{edge_of, sweep_lender, sweep_words, way_of, writes_of}
use Rattle.bit_table_rows.proofs.keep.put_zeros.Given as goal

abbrev pub invariant-zeros : goal.invariant-zeros
invariant-zeros g l =
    let reading = read_by g.T.BitRegister g.O.Positions.position in
    let number = g.T.BitRegister.number in
    record {
      same : (p : ℕ) → entry reading (sweep_words l.sweep) p ≡ entry reading (sweep_words l.fn.sweep) p;
      words : length (sweep_words l.sweep) ≡ length (sweep_words l.fn.sweep);
      edge : edge_of l.sweep ≤ l.k;
      writes : writes_of l.sweep + l.first / l.bits ≡ writes_of l.fn.sweep + l.k;
      changed : (others : List _) → changed number others (sweep_words l.sweep) + writes_of l.fn.sweep
          ≤ changed number others (sweep_words l.fn.sweep) + writes_of l.sweep;
      way : way_of l.sweep ≡ way_of l.fn.sweep;
      lender : sweep_lender l.sweep ≡ sweep_lender l.fn.sweep;
    }
