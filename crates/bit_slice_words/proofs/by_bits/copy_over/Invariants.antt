use Rattle.bit_addressing_memory.proofs.Common.{◌+◌, ◌-◌, read_by, Copies}
use Rattle.bit_slice_paths.specs.Steps.{Takes}
use Rattle.bit_slice_words.proofs.by_bits.copy_over.Given as goal

-- the first k bits are copied
abbrev pub invariant-up : goal.invariant-up
invariant-up g l =
    let reading = read_by g.R.BitRegister g.O.Positions.position in
    record {
      copied : Copies reading l.fn.words l.words reading l.fn.words l.source l.target l.k;
      steps : Takes l.fn.steps l.steps l.k l.k;
    }

-- the bits from bit k on are copied
abbrev pub invariant-down : goal.invariant-down
invariant-down g l =
    let reading = read_by g.R.BitRegister g.O.Positions.position in
    record {
      copied :
          Copies reading l.fn.words l.words reading l.fn.words (l.source + l.k) (l.target + l.k) (l.len - l.k);
      steps : Takes l.fn.steps l.steps (l.len - l.k) (l.len - l.k);
    }
