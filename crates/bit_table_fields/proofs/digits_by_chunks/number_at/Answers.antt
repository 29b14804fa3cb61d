use Rattle.std.proofs.Common.{subst, ◌∙◌}
use mir.Syntax.{w128}
use Rattle.std.proofs.lemmas.Int.{to_z-of_z}
use Rattle.bit_addressing_memory.specs.Memory.{read_by}
use Rattle.bit_slice_chunks.specs.Chunk.{IsChunk}
use Rattle.bit_table_fields.proofs.digits_by_chunks.number_at.Goals as goal

pub returns : goal.returns
returns g c =
    let reading = read_by g.R.BitRegister g.O.Positions.position in
    to_z-of_z w128 c.number_in.result (record { sfits = c.number_in.type_inv })
    ∙ c.number_in.ensures c.args.words.now c.args.place c.requires.within
    (subst (λ way. IsChunk reading c.args.words.now c.args.place c.args.width way c.read_bits-chunk.result)
    c.way_of.ensures c.read_bits-chunk.ensures)
