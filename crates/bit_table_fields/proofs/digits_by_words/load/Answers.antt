use Rattle.std.proofs.Common.{subst, ◌∙◌, arith}
use mir.Syntax.{w128}
use Rattle.std.proofs.lemmas.Int.{to_z-of_z}
use Rattle.bit_addressing_memory.specs.Memory.{read_by}
use Rattle.bit_slice_chunks.specs.Chunk.{IsChunk}
use Rattle.bit_table_fields.proofs.CountLemmas.{takes_words}
use Rattle.bit_table_fields.proofs.digits_by_words.load.Goals as goal

pub returns-clause-value : goal.returns-clause-value
returns-clause-value g c =
    let reading = read_by g.R.BitRegister g.O.Positions.position in
    to_z-of_z w128 c.number_in.result (record { sfits = c.number_in.type_inv })
    ∙ c.number_in.ensures c.args.words.now c.args.place c.requires.within
    (subst (λ way. IsChunk reading c.args.words.now c.args.place c.args.width way c.read_counted-chunk.result.0)
    c.way_of.ensures c.read_counted-chunk.ensures.chunk)

pub returns-clause-steps : goal.returns-clause-steps
returns-clause-steps g c =
    takes_words _ _ c.read_counted-chunk.result.1 g.R.BitRegister.BITS c.args.place c.args.width
    (omega (arith, g.met.R.BitRegister.least_bits)) c.requires.some c.read_counted-chunk.ensures.reads c.many.ensures
