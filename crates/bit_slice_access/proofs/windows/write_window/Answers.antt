use Rattle.std.proofs.Common.{◌+◌, ◌<◌, ℕ, arith, ap, refl, ◌∙◌}
use Rattle.bit_addressing_memory.specs.Memory.{memory, piece, read_by, with_piece, entry}
use Rattle.bit_slice_views_mut.proofs.ListLemmas.{copied_list}
use Rattle.bit_slice_access.proofs.PartEditLemmas.{window_part}
use Rattle.bit_slice_access.proofs.windows.write_window.Goals as goal

pub returns-clause-list : goal.returns-clause-list
returns-clause-list g c =
    let reading = read_by g.R.BitRegister g.O.Positions.position in
    let its = read_by g.Q.BitRegister g.P.Positions.position in
    let some : 0 < g.R.BitRegister.BITS = omega (arith, g.met.R.BitRegister.least_bits) in
    let before = c.args.words.now in
    let after = c.copy_in.new.words in
    let at : ℕ = c.args.place + c.args.at in
    window_part reading before after c.args.place c.args.all at c.args.at c.args.len
    (λ k. entry its c.args.others.now (c.args.source + k)) some c.requires.within refl c.requires.target
    c.copy_in.ensures.copied
    ∙ ap (with_piece (piece (memory reading before) c.args.place c.args.all) c.args.at)
    (copied_list reading before after at c.args.len some (omega (arith, c.requires.within, c.requires.target)) its
    c.args.others.now c.args.source (omega (arith, g.met.Q.BitRegister.least_bits)) c.requires.source_within
    c.copy_in.ensures.copied)
