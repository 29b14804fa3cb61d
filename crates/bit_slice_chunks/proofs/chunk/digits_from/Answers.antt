use Rattle.std.proofs.Common.{◌/◌, ◌%◌, ◌^◌, ap, arith}
use Rattle.bit_addressing_memory.proofs.ChunkLemmas.{part_narrow_is}
use Rattle.bit_slice_chunks.proofs.chunk.digits_from.Goals as goal

pub returns : goal.returns
returns g c =
    part_narrow_is g.R.BitRegister.BITS g.R.BitRegister.number c.args.word c.args.below
    (c.value.result % 2 ^ 64 / 2 ^ c.args.below) (g.met.R.BitRegister.number_fits c.args.word)
    (omega (arith, c.BITS.ensures)) (ap (λ n. n % 2 ^ 64 / 2 ^ c.args.below) c.value.ensures)
