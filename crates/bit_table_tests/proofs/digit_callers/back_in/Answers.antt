use Rattle.std.proofs.Common.{◌<◌, length, arith, rules}
use Rattle.bit_addressing_memory.specs.Memory.{read_by}
use Rattle.bit_slice_views_mut.specs.Frame.{KeepsBeside}
use Rattle.bit_slice_views_mut.specs.ViewMut.{lent_bits}
use Rattle.bit_slice_views_mut.proofs.FrameLemmas.{frame_beside}
use Rattle.bit_table_tests.proofs.digit_callers.back_in.Goals as goal

pub returns-clause-beside : goal.returns-clause-beside
returns-clause-beside g c =
    let reading = read_by g.R.BitRegister g.O.Positions.position in
    let some : 0 < g.R.BitRegister.BITS = omega (arith, g.met.R.BitRegister.least_bits) in
    let v = c.from_place_mut-view.result in
    let w = c.back_high.new.view in
    let there : KeepsBeside reading c.args.words.now w.words.now c.args.place c.args.width =
    frame_beside reading v.words.ghost_name w.words.ghost_name c.args.words.now v.words.now w.words.now c.args.place
    v.head w.head c.args.width (length (lent_bits reading v)) (length (lent_bits reading w)) some
    c.from_place_mut-view.ensures.words c.from_place_mut-view.ensures.place c.from_place_mut-view.ensures.len
    c.back_high.ensures.len c.back_high.ensures.frame in
    search (rules, there)
