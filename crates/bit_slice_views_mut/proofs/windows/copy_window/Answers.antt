use Rattle.std.proofs.Common.{arith}
use Rattle.bit_addressing_memory.specs.Memory.{read_by}
use Rattle.bit_slice_views.proofs.ListLemmas.{copied_list}
use Rattle.bit_slice_views_mut.proofs.windows.copy_window.Goals as goal

pub returns-clause-list : goal.returns-clause-list
returns-clause-list g c =
    copied_list (read_by g.R.BitRegister g.O.Positions.position) c.args.words.now c.copy_in.new.words c.args.place
    c.args.len (omega (arith, g.met.R.BitRegister.least_bits)) c.requires.within
    (read_by g.Q.BitRegister g.P.Positions.position) c.args.others.now c.args.source
    (omega (arith, g.met.Q.BitRegister.least_bits)) c.requires.source_within c.copy_in.ensures.copied
