use Rattle.bit_addressing_memory.proofs.Common.{ℕ, List, ◌+◌, ◌-◌, ◌*◌, ◌≤◌, read_by}
use Rattle.bit_addressing_memory.specs.Moves.{Moves, changed}
use Rattle.bit_addressing_memory.proofs.blocks.move_blocks.Given as goal

abbrev pub invariant-up : goal.invariant-up
invariant-up g l =
    let b = g.R.BitRegister.BITS in
    record {
      moved : Moves (read_by g.R.BitRegister g.O.Positions.position) l.fn.words l.words (l.from * b + l.by) (l.low * b)
          (64 * l.m);
      few : (number : g.row.R.Denot → ℕ) → (others : List g.row.R.Denot)
          → changed number others l.words ≤ changed number others l.fn.words + l.m * l.size;
    }

abbrev pub invariant-down : goal.invariant-down
invariant-down g l =
    let b = g.R.BitRegister.BITS in
    record {
      moved : Moves (read_by g.R.BitRegister g.O.Positions.position) l.fn.words l.words (l.from * b + l.by + 64 * l.m)
          (l.low * b + 64 * l.m) (64 * (l.count - l.m));
      few : (number : g.row.R.Denot → ℕ) → (others : List g.row.R.Denot)
          → changed number others l.words + l.m * l.size ≤ changed number others l.fn.words + l.count * l.size;
    }
