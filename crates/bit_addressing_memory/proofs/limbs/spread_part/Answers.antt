use Rattle.bit_addressing_memory.proofs.Common.{◌+◌, min, arith, read_by}
use Rattle.bit_addressing_memory.proofs.LimbLemmas.{part_joined, two_limbs}
use Rattle.bit_addressing_memory.proofs.limbs.spread_part.Goals as goal

pub limb_of-high-requires : goal.limb_of-high-requires
limb_of-high-requires g c =
    let wide = two_limbs g.R.BitRegister.BITS g.met.R.BitRegister.size (omega (arith, c.requires.within, c.requires.order)) in
    omega (arith, wide)

pub limb_of-last-requires : goal.limb_of-last-requires
limb_of-last-requires g c =
    let wide = two_limbs g.R.BitRegister.BITS g.met.R.BitRegister.size (omega (arith, c.requires.within)) in
    omega (arith, wide)

pub returns : goal.returns
returns g c =
    let b = g.R.BitRegister.BITS in
    let wide = two_limbs b g.met.R.BitRegister.size (omega (arith, c.requires.within)) in
    part_joined (read_by g.R.BitRegister g.O.Positions.position) c.args.word c.args.from c.args.upto (0 + min 64 b)
    (64 + min 64 b) c.limb_of-first.result c.limb_of-last.result c.lowered-low.result c.raised.result wide (omega arith)
    (omega (arith, wide)) (omega (arith, wide, c.requires.within)) c.limb_of-first.ensures c.limb_of-last.ensures
    c.lowered-low.ensures c.raised.ensures
