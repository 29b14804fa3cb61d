use Rattle.std.proofs.Common.{◌<◌, arith}
use Rattle.bit_addressing_memory.specs.Memory.{read_by}
use Rattle.bit_slice_views.proofs.ListLemmas.{copied_list}
use Rattle.bit_slice_views_mut.proofs.paths.copy_path.Goals as goal

pub returns-clause-list : goal.returns-clause-list
returns-clause-list g c =
    let reading = read_by g.R.BitRegister g.O.Positions.position in
    let some : 0 < g.R.BitRegister.BITS = omega (arith, g.met.R.BitRegister.least_bits) in
    copied_list reading c.args.words.now c.copy.new.words c.args.place c.args.len some c.requires.within reading
    c.args.others.now c.args.source some c.requires.source_within c.copy.ensures.copied
