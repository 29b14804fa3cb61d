use Rattle.std.proofs.Common.{rules, ◌≡◌, ◌≤◌, Bool, true, false, List, length, set, length-set, arith, ap, ◌∙◌}
use Rattle.bit_addressing_memory.specs.Memory.{piece, with_piece}
use Rattle.bit_addressing_memory.proofs.MemoryLemmas.{length-piece}
use Rattle.bit_slice_access.proofs.CallerLemmas.{part_kept}
use Rattle.bit_slice_access.proofs.PartLemmas.{piece_set, piece_same}
use Rattle.bit_slice_tests.proofs.access_callers.set_in_part.Goals as goal

-- two bits of a piece set
both_set : (xs : List Bool) → 7 ≤ length xs
    → with_piece xs 2 (set (set (piece xs 2 5) 1 true) 3 false) ≡ set (set xs 3 true) 5 false
both_set xs long =
    let ys = piece xs 2 5 in
    let size : length ys ≡ 5 = length-piece xs 2 5 long in
    let same : length (set ys 1 true) ≡ length ys = length-set ys 1 true in
    piece_set xs (set ys 1 true) 2 3 false (omega arith) (omega arith)
    ∙ ap (λ zs. set zs 5 false)
    (piece_set xs ys 2 1 true (omega arith) (omega arith) ∙ ap (λ zs. set zs 3 true) (piece_same xs 2 5 long))

pub returns : goal.returns
returns g c =
    let v = c.args.view.now in
    let p = c.new-part.result in
    let q = c.set-2.new.self in
    let kept = part_kept c.new-part.ensures.shows q (c.set-2.ensures.frame ∙ c.set.ensures.frame) (omega arith)
    (g.met.V.BitsMut.window q.of.now) c.requires p.fits in
    let loan = kept.0 in
    let now : g.V.Bits.bits q.of.now ≡ set (set (piece (g.V.Bits.bits v) 2 5) 1 true) 3 false = cc in
    let bits : g.V.Bits.bits c.drop-part.new.self.0 ≡ set (set (g.V.Bits.bits v) 3 true) 5 false =
    c.drop-part.ensures.bits ∙ kept.1 ∙ ap (with_piece (g.V.Bits.bits v) 2) now
    ∙ both_set (g.V.Bits.bits v) c.requires in
    let frame : g.V.BitsMut.frame c.drop-part.new.self.0 ≡ g.V.BitsMut.frame v = c.drop-part.ensures.frame ∙ kept.2 in
    record { bits = search (rules, bits, loan); frame = search (rules, frame, loan) }
