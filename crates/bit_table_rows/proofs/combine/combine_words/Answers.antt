use Rattle.std.proofs.Common.{◌<◌, arith}
use Rattle.bit_addressing_memory.specs.Memory.{read_by}
use Rattle.bit_slice_words.proofs.ListLemmas.{combined_list}
use Rattle.bit_table_layout.specs.Letters.{combined}
use Rattle.bit_table_rows.proofs.combine.combine_words.Goals as goal

pub returns-clause-list : goal.returns-clause-list
returns-clause-list g c =
    let reading = read_by g.R.BitRegister g.O.Positions.position in
    let some : 0 < g.R.BitRegister.BITS = omega (arith, g.met.R.BitRegister.least_bits) in
    combined_list reading c.args.words.now c.combine_path.new.words c.args.place c.args.len some c.requires.within
    reading c.args.others.now c.args.other_place some c.requires.other_within (combined c.args.op)
    c.combine_path.ensures.combined
