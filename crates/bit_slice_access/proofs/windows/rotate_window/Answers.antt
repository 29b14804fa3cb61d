use Rattle.std.proofs.Common.{◌+◌, ◌<◌, ℕ, ◌++◌, take, drop, arith, sym, ap, refl, ◌∙◌}
use Rattle.bit_addressing_memory.specs.Memory.{memory, piece, read_by, with_piece, entry}
use Rattle.bit_addressing_memory.proofs.MemoryLemmas.{piece_piece}
use Rattle.bit_slice_views_mut.specs.Rotations.{rotated_from}
use Rattle.bit_slice_views_mut.proofs.ListLemmas.{rotated_left_list}
use Rattle.bit_slice_access.proofs.PartEditLemmas.{window_part}
use Rattle.bit_slice_access.proofs.windows.rotate_window.Goals as goal

pub returns-clause-list : goal.returns-clause-list
returns-clause-list g c =
    let reading = read_by g.R.BitRegister g.O.Positions.position in
    let some : 0 < g.R.BitRegister.BITS = omega (arith, g.met.R.BitRegister.least_bits) in
    let before = c.args.words.now in
    let after = c.rotate_left_in.new.words in
    let at : ℕ = c.args.place + c.args.at in
    let len = c.args.len in
    let by = c.args.by in
    let xs = piece (memory reading before) c.args.place c.args.all in
    let part = piece_piece (memory reading before) c.args.place c.args.all c.args.at len c.requires.part in
    window_part reading before after c.args.place c.args.all at c.args.at len
    (λ k. entry reading before (at + rotated_from len by k)) some c.requires.within refl c.requires.part
    c.rotate_left_in.ensures.rotated
    ∙ ap (with_piece xs c.args.at)
    (rotated_left_list reading before after at len some
    (omega (arith, c.requires.within, c.requires.part)) by c.requires.most c.rotate_left_in.ensures.rotated
    ∙ ap (λ ys. drop by ys ++ take by ys) (sym part))
