use Rattle.std.proofs.Common.{◌<◌, arith}
use Rattle.bit_slice_access.proofs.SpanLemmas.{span_ends}
use Rattle.bit_slice_access.proofs.words.span_of.Goals as goal

pub unwrap-requires : goal.unwrap-requires
unwrap-requires g c =
    let some : 0 < g.T.BitRegister.BITS = omega (arith, g.met.T.BitRegister.least_bits) in
    c.new.ensures.ok.1 (span_ends g.T.BitRegister.BITS c.bits_of-bits.result c.args.place
    c.new_unchecked-head.result c.args.len some c.bits_of-bits.ensures c.new_unchecked-head.ensures c.requires.short
    c.requires.ends)
