use Rattle.std.proofs.Common.{◌+◌, ◌<◌, subst, arith}
use mir.Syntax.{w128}
use Rattle.std.proofs.lemmas.Int.{to_z-of_z}
use Rattle.bit_addressing_memory.specs.Memory.{read_by, Overwrites}
use Rattle.bit_slice_chunks.specs.Chunk.{chunk_bit}
use Rattle.bit_slice_views_mut.proofs.FrameLemmas.{overwritten_beside}
use Rattle.bit_table_fields.specs.Chunks.{ChunkOf}
use Rattle.bit_table_fields.proofs.ChunkLemmas.{number_written}
use Rattle.bit_table_fields.proofs.digits_by_words.write_number.Goals as goal

pub returns-clause-list : goal.returns-clause-list
returns-clause-list g c =
    let reading = read_by g.R.BitRegister g.O.Positions.position in
    let some : 0 < g.R.BitRegister.BITS = omega (arith, g.met.R.BitRegister.least_bits) in
    let wrote =
    subst
    (λ way. Overwrites reading c.args.words.now c.write_counted.new.words (c.args.place + c.args.at) c.args.width
    (chunk_bit way c.chunk_for-chunk.result))
    c.way_of.ensures c.write_counted.ensures.bits in
    let held =
    subst (λ v. ChunkOf c.args.rule c.args.width v c.chunk_for-chunk.result) (to_z-of_z w128 c.args.value c.ranges.value)
    c.chunk_for-chunk.ensures in
    number_written c.args.rule reading c.args.words.now c.write_counted.new.words c.args.place c.args.all c.args.at
    c.args.width c.chunk_for-chunk.result c.args.value some c.requires.within c.requires.target c.requires.narrow held
    wrote

pub returns-clause-beside : goal.returns-clause-beside
returns-clause-beside g c =
    overwritten_beside (read_by g.R.BitRegister g.O.Positions.position) c.args.words.now c.write_counted.new.words
    c.args.place c.args.all (c.args.place + c.args.at) c.args.width (chunk_bit c.way_of.result c.chunk_for-chunk.result)
    (omega arith) (omega (arith, c.requires.target)) c.write_counted.ensures.bits
