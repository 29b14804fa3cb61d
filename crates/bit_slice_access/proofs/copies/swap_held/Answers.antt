use Rattle.std.proofs.Common.{ap, length, arith}
use Rattle.bit_addressing_memory.proofs.MemoryLemmas.{length-piece}
use Rattle.bit_slice_access.proofs.copies.swap_held.Goals as goal

pub write_part-requires : goal.write_part-requires
write_part-requires g c =
    let size = length-piece (g.W.Bits.bits c.args.other.now) c.args.at c.args.count c.requires.other_within in
    omega (arith, ap length c.part.ensures.bits, size)
