use Rattle.bit_slice.specs.Memory.{read_by}
use Rattle.bit_slice.specs.View.{view_bits}
use Rattle.bit_containers.proofs.RepeatedLemmas.{once_more}
use Rattle.bit_containers.proofs.to_bits.repeat_bits.Goals as goal

pub extend_from_bitslice-requires : goal.extend_from_bitslice-requires
extend_from_bitslice-requires g c =
    rw (c.loop-i.invariant.bits)
    (once_more c.loop-i._i c.args.times _ (view_bits (read_by g.T.BitRegister g.O.Positions.position) c.args.view)
    c.loop-i-test.true c.requires)
