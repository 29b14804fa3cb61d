use Rattle.std.proofs.Common.{arith}
use Rattle.bit_addressing_memory.proofs.PartsLemmas.{part_start}
use Rattle.bit_addressing_span.proofs.domain_mut.bounds_of.Goals as goal

pub part_between-head-requires-clause-before : goal.part_between-head-requires-clause-before
part_between-head-requires-clause-before g c =
    rw c.BITS-bits.ensures
    (part_start g.R.BitRegister.BITS c.args.head c.args.len c.args.k c.requires.some
    (omega (arith, g.met.R.BitRegister.least_bits)))
