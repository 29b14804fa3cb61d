use Rattle.bit_addressing_memory.proofs.Common.{◌+◌, ◌-◌, ◌*◌, read_by, Copies}
use Rattle.bit_slice_paths.specs.Steps.{groups, Takes}
use Rattle.bit_slice_paths.proofs.by_words.copy_over.Given as goal

-- the first k chunks are copied
abbrev pub invariant-up : goal.invariant-up
invariant-up g l =
    let reading = read_by g.R.BitRegister g.O.Positions.position in
    record {
      copied : Copies reading l.fn.words l.words reading l.fn.words l.source l.target (64 * l.k);
      steps : Takes l.fn.steps l.counted l.k l.k;
    }

-- the bits from chunk k on are copied
abbrev pub invariant-down : goal.invariant-down
invariant-down g l =
    let reading = read_by g.R.BitRegister g.O.Positions.position in
    record {
      copied :
          Copies reading l.fn.words l.words reading l.fn.words (l.source + 64 * l.k) (l.target + 64 * l.k)
          (l.len - 64 * l.k);
      steps : Takes l.fn.steps l.counted (groups (l.len - 64 * l.k) 64) (groups (l.len - 64 * l.k) 64);
    }
