use Rattle.bit_addressing_memory.proofs.Common.{◌≡◌, ◌+◌, ◌-◌, ap, ◌∙◌, arith, read_by}
use Rattle.bit_addressing_order.specs.Bits.{digit_at}
use Rattle.bit_addressing_memory.proofs.LimbLemmas.{two_limbs}
use Rattle.bit_addressing_memory.proofs.SpreadLemmas.{stored_more}
use Rattle.bit_addressing_memory.proofs.limbs.with_spread.Goals as goal

pub with_bits-requires-then-from-ge64-clause-limb : goal.with_bits-requires-then-from-ge64-clause-limb
with_bits-requires-then-from-ge64-clause-limb g c =
    let wide = two_limbs g.R.BitRegister.BITS g.met.R.BitRegister.size (omega (arith, c.requires.within)) in
    omega (arith, wide)

pub with_bits-requires-2-clause-limb : goal.with_bits-requires-2-clause-limb
with_bits-requires-2-clause-limb g c =
    let wide = two_limbs g.R.BitRegister.BITS g.met.R.BitRegister.size (omega (arith, c.requires.within)) in
    omega (arith, wide)

pub returns : goal.returns
returns g c =
    let from = c.args.from in
    stored_more (read_by g.R.BitRegister g.O.Positions.position) c.args.word c.with_bits-begun.result c.with_bits-2.result
    from 64 c.args.upto _ _ (omega arith) (omega arith)
    (λ i high low.
    let there : i - 64 + (64 - from) ≡ i - from = omega arith in
    c.lowered-rest.ensures.inside (i - 64) (omega (arith, c.requires.few)) ∙ ap (digit_at c.args.chunk) there)
    c.with_bits-begun.ensures c.with_bits-2.ensures
