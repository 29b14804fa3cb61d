use Rattle.bit_addressing_memory.proofs.Common.{◌-◌, ◌/◌, ◌≤◌, length, arith}
use Rattle.bit_slice_chunks.proofs.WholeLemmas.{block_within}
use Rattle.bit_slice_chunks.proofs.field.has_block.Goals as goal

pub returns-then-others-eq0-clause-within : goal.returns-then-others-eq0-clause-within
returns-then-others-eq0-clause-within g c is =
    let enough : 64 / c.bits_of.result ≤ length c.args.words.now - c.args.first = grind arith in
    block_within g.R.BitRegister.BITS c.bits_of.result c.args.first (length c.args.words.now) g.met.R.BitRegister.size
    (omega (arith, c.BITS.ensures)) c.bits_of.ensures enough c.requires

pub returns-else-others-eq0-clause-within : goal.returns-else-others-eq0-clause-within
returns-else-others-eq0-clause-within g c is =
    let enough : 64 / c.bits_of.result ≤ length c.args.words.now - c.args.first = grind arith in
    block_within g.R.BitRegister.BITS c.bits_of.result c.args.first (length c.args.words.now) g.met.R.BitRegister.size
    (omega (arith, c.BITS.ensures)) c.bits_of.ensures enough c.requires
