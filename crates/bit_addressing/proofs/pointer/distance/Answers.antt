use Rattle.std.proofs.Common.{arith, ◌≡◌, w64, pos, ◌-ℤ◌, ◌*ℤ◌}
use Rattle.std.proofs.lemmas.Int.{ints, to_z-of_z}
use Rattle.bit_addressing.proofs.PointerLemmas.{times_difference}
use Rattle.bit_addressing.proofs.pointer.distance.Goals as goal

pub overflow_sub-result : goal.overflow_sub-result
overflow_sub-result g c = omega (arith, ints)

pub returns : goal.returns
returns g c =
    let bits = pos g.R.BitRegister.BITS in
    let same = to_z-of_z w64 c.args.to c.ranges.to in
    let same_from = to_z-of_z w64 c.args.from c.ranges.from in
    let apart = times_difference c.args.to c.args.from g.R.BitRegister.BITS in
    let words : c.words_between-words.result ≡ (c.args.to *ℤ bits) -ℤ (c.args.from *ℤ bits) = cc in
    omega (arith, ints)
