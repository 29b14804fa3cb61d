use Rattle.std.proofs.Common.{arith}
use Rattle.bit_addressing_memory.specs.Memory.{read_by}
use Rattle.bit_slice_views.proofs.ListLemmas.{filled_list}
use Rattle.bit_slice_views_mut.proofs.windows.fill_window.Goals as goal

pub returns-clause-list : goal.returns-clause-list
returns-clause-list g c =
    filled_list (read_by g.R.BitRegister g.O.Positions.position) c.args.words.now c.fill_in.new.words c.args.place
    c.args.len (omega (arith, g.met.R.BitRegister.least_bits)) c.requires.within c.args.bit c.fill_in.ensures.filled
