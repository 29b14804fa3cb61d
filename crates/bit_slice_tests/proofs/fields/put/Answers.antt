use Rattle.std.proofs.Common.{lit<, length, rules}
use Rattle.bit_slice_views_mut.specs.Frame.{KeepsBeside}
use Rattle.bit_slice_views_mut.specs.ViewMut.{lent_bits}
use Rattle.bit_slice_views_mut.proofs.FrameLemmas.{frame_beside}
use Rattle.bit_slice.specs.Network.{network}
use Rattle.bit_slice_tests.proofs.fields.put.Goals as goal

pub returns-clause-beside : goal.returns-clause-beside
returns-clause-beside g c =
    let v = c.from_place_mut-view.result in
    let w = c.store_be.new.self in
    let there : KeepsBeside network c.args.bytes.now w.words.now c.args.place c.args.len =
    frame_beside network v.words.ghost_name w.words.ghost_name c.args.bytes.now v.words.now w.words.now c.args.place
    v.head w.head c.args.len (length (lent_bits network v)) (length (lent_bits network w)) (lit< tt)
    c.from_place_mut-view.ensures.words c.from_place_mut-view.ensures.place c.from_place_mut-view.ensures.len
    c.store_be.ensures.len c.store_be.ensures.frame in
    search (rules, there)
