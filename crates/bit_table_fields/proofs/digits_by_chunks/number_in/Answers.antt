use Rattle.std.proofs.Common.{◌<◌, ap, ◌∙◌, arith}
use mir.Syntax.{w128}
use Rattle.std.proofs.lemmas.Int.{to_z-of_z}
use Rattle.bit_addressing_memory.specs.Memory.{read_by}
use Rattle.bit_table_layout.specs.Readings.{number_from_digits}
use Rattle.bit_table_fields.proofs.ChunkLemmas.{held_digits}
use Rattle.bit_table_fields.proofs.digits_by_chunks.number_in.Goals as goal

pub returns : goal.returns
returns g c = λ words place within is.
    let reading = read_by g.R.BitRegister g.O.Positions.position in
    let some : 0 < g.R.BitRegister.BITS = omega (arith, g.met.R.BitRegister.least_bits) in
    to_z-of_z w128 c.number_of.result (record { sfits = c.number_of.type_inv })
    ∙ c.number_of.ensures
    ∙ ap (number_from_digits c.args.signed c.args.width) ((rw c.way_of.ensures at c.digits_of.ensures)
    ∙ held_digits c.args.rule reading words place c.args.width c.args.chunk some within c.requires.some
    c.requires.narrow c.ranges.chunk.fits is)
