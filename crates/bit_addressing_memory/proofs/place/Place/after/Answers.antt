use Rattle.std.proofs.Common.{arith, ◌≤◌, ◌%◌, ◌^◌, ◌+◌}
use Rattle.bit_addressing_memory.proofs.PlaceLemmas.{word_after, word_after_next}
use Rattle.bit_addressing_memory.proofs.place.Place.after.Goals as goal

pub overflow_add-word : goal.overflow_add-word
overflow_add-word g c =
    let small = word_after g.R.BitRegister.BITS c.BITS-bits.result c.args.self.0 c.args.self.1 c.args.by
    (2 ^ 64) c.BITS-bits.ensures c.requires in
    omega arith

pub overflow_add-word-2 : goal.overflow_add-word-2
overflow_add-word-2 g c =
    let past : c.BITS-bits.result ≤ c.args.self.1 + c.args.by % c.BITS-bits.result = omega arith in
    let small = word_after_next g.R.BitRegister.BITS c.BITS-bits.result c.args.self.0 c.args.self.1 c.args.by
    (2 ^ 64) c.BITS-bits.ensures c.requires past in
    omega arith
