use Rattle.std.proofs.Common.{arith, ◌-ℤ◌}
use Rattle.std.proofs.lemmas.Int.{ints}
use Rattle.bit_addressing.proofs.PointerLemmas.{between_value, between_small, apart_small}
use Rattle.bit_addressing.proofs.pointer.words_between.Goals as goal

pub returns-clause-value : goal.returns-clause-value
returns-clause-value g c =
    let small = apart_small c.args.to c.args.from c.ranges.to c.ranges.from in
    between_value _ (c.args.to -ℤ c.args.from) g.R.BitRegister.BITS c.BITS.result (omega (arith, ints))
    c.BITS.ensures g.met.R.BitRegister.most_bits small

pub returns-clause-small : goal.returns-clause-small
returns-clause-small g c =
    let small = apart_small c.args.to c.args.from c.ranges.to c.ranges.from in
    between_small _ (c.args.to -ℤ c.args.from) g.R.BitRegister.BITS c.BITS.result (omega (arith, ints))
    c.BITS.ensures g.met.R.BitRegister.most_bits small
