use Rattle.bit_addressing_memory.proofs.Common.{◌≡◌, ◌-◌, arith, read_by}
use Rattle.bit_slice_words.proofs.PathLemmas.{equal_behind}
use Rattle.bit_slice_words.proofs.by_bits.equal.Goals as goal

pub returns-clause-value : goal.returns-clause-value
returns-clause-value g c =
    let few = c.few_to_compare-few.result in
    let all : c.loop-k.k ≡ few = omega (arith, c.loop-k.auto.k-end) in
    equal_behind (read_by g.R.BitRegister g.O.Positions.position) c.args.words.now c.args.others.now c.args.place
    c.args.other_place few (c.args.len - few) c.args.len c.equal.result
    (omega (arith, c.few_to_compare-few.ensures)) (rw all at c.loop-k.invariant.same) c.equal.ensures.value
