use Rattle.std.proofs.Common.{◌≤◌, ◌+◌, ◌*◌, length, arith}
use Rattle.bit_slice_words.proofs.CountLemmas.{ones_bound}
use Rattle.bit_slice_words.proofs.count.ones_word_by_word.Goals as goal

pub overflow_add-ones : goal.overflow_add-ones
overflow_add-ones g c =
    let bound : c.loop-word.ones + c.ones_of-ones.result ≤ length c.args.body.now * g.R.BitRegister.BITS =
    ones_bound _ g.R.BitRegister.number _ _ _ c.args.body.now _ c.word-item.result _ _ g.met.O.BitOrder.lawful
    (g.met.R.BitRegister.number_fits c.word-item.result) c.loop-word-test.true c.word-item.is c.ones_of-ones.ensures
    c.loop-word.invariant in
    omega arith
