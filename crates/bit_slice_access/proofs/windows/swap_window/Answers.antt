use Rattle.std.proofs.Common.{arith}
use Rattle.bit_addressing_memory.specs.Memory.{read_by}
use Rattle.bit_slice_access.proofs.PartEditLemmas.{window_exchanged}
use Rattle.bit_slice_access.proofs.windows.swap_window.Goals as goal

pub returns-clause-list : goal.returns-clause-list
returns-clause-list g c =
    window_exchanged (read_by g.R.BitRegister g.O.Positions.position) c.args.words.now c.exchange_in.new.words
    c.args.place c.args.all c.args.first c.args.second c.args.len (omega (arith, g.met.R.BitRegister.least_bits))
    c.requires.within c.requires.apart c.requires.inside c.exchange_in.ensures.swapped
