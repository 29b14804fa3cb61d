use Rattle.std.proofs.Common.{◌+◌, length, refl, ap, ◌∙◌}
use Rattle.bit_addressing_memory.specs.Memory.{read_by}
use Rattle.bit_slice_splits.specs.Takes.{parts_state, MayFollow, TakesNth, TakesUpTo}
use Rattle.bit_slice_splits.proofs.SeekLemmas.{taken_by}
use Rattle.bit_slice_splits.proofs.splits_n_mut.SplitsMut+V+F+A+AtMost.nth_mut.Goals as goal

pub returns-then-seek_nth_next : goal.returns-then-seek_nth_next
returns-then-seek_nth_next g c =
    let reading = read_by g.V.Store.BitRegister g.V.Order.Positions.position in
    let words = g.V.BitsMut.words in
    let p = c.args.self.now in
    let q = c.seek_nth_next.new.self in
    let lent = c.part_mut.result.now in
    let kept = c.seek_nth_next.ensures.keeps in
    let lies = c.seek_nth_next.ensures.lies_still in
    let follow : MayFollow g.F.FnMut (parts_state q) = record { left = lies.left; found = lies.found; callable = c.seek_nth_next.ensures.callable_still } in
    let took = taken_by (λ r. TakesNth g.F.FnMut (TakesUpTo reading (words p.of.now) g.A.SplitEnd.way g.F.FnMut) c.args.k (parts_state p) r
    (parts_state q))
    c.seek_nth_next.result reading (words q.of.now) (words lent) (g.V.BitsMut.place lent)
    (length (g.V.Bits.bits lent)) q.head q.len q.start q.size (g.V.Bits.bits lent) c.if-seek_nth_next.true
    (g.met.V.BitsMut.window lent) c.part_mut.ensures.words c.part_mut.ensures.place c.part_mut.ensures.len lies.found
    (c.seek_nth_next.ensures.parts, follow) in (
      (
        refl,
        (λ w. (
          record {
            view_is = refl;
            loan = kept.loan;
            place_is = kept.place_is;
            len_is = kept.len_is;
            lent_place = c.part_mut.ensures.place ∙ ap (λ at. at + q.start) kept.place_is;
            lent_len = c.part_mut.ensures.len;
            left_within = lies.left;
            lent_within = lies.found;
            shorter = c.seek_nth_next.ensures.shorter c.if-seek_nth_next.true;
            callable = c.seek_nth_next.ensures.callable_still;
          },
          took,
        )),
        tt,
      ),
      record {
        variant = λ _. c.seek_nth_next.ensures.going c.if-seek_nth_next.true;
        words = c.part_mut.ensures.words ∙ kept.words_are;
        lender = c.part_mut.ensures.lender ∙ kept.lender_is;
        lends = tt;
      },
    )
