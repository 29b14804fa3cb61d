use Rattle.std.proofs.Common.{◌+◌, ◌-◌, ◌*◌, ◌/◌, ◌%◌, ◌^◌, ap, ◌∙◌, arith}
use Rattle.bit_addressing_memory.proofs.ChunkLemmas.{part_up_is, part_down_is}
use Rattle.bit_addressing_memory.proofs.chunk.part.Goals as goal

pub returns-in-Ascending : goal.returns-in-Ascending
returns-in-Ascending g c =
    rw c.in-Ascending.is (part_up_is g.R.BitRegister.BITS g.R.BitRegister.number g.O.Positions.position c.args.word
    c.args.from c.part_up.result (rw c.in-Ascending.is at c.args.straight.goes)
    (g.met.R.BitRegister.number_fits c.args.word)
    (c.part_up.ensures ∙ ap (λ n. n / 2 ^ c.args.from % 2 ^ 64) c.value.ensures))

pub returns-in-Descending : goal.returns-in-Descending
returns-in-Descending g c =
    let by = 128 - c.BITS.result + c.args.from in
    rw c.in-Descending.is (part_down_is g.R.BitRegister.BITS g.R.BitRegister.number g.O.Positions.position c.args.word
    c.args.from by c.part_down.result (rw c.in-Descending.is at c.args.straight.goes) g.met.R.BitRegister.most_bits
    c.requires (omega (arith, c.BITS.ensures))
    (c.part_down.ensures ∙ ap (λ n. n * 2 ^ by % 2 ^ 128 / 2 ^ 64) c.value-in-Descending.ensures))
