use Rattle.std.proofs.Common.{◌+◌, length, refl, rules, ap, ◌∙◌}
use Rattle.bit_addressing_memory.specs.Memory.{read_by}
use Rattle.bit_slice_splits.specs.Takes.{parts_state, TakesPart}
use Rattle.bit_slice_splits.proofs.SeekLemmas.{taken_by}
use Rattle.bit_slice_splits.proofs.splits_mut.SplitsMut.next_mut.Goals as goal

pub returns-then-seek : goal.returns-then-seek
returns-then-seek g c =
    let reading = read_by g.V.Store.BitRegister g.V.Order.Positions.position in
    let words = g.V.BitsMut.words in
    let p = c.args.self.now in
    let q = c.seek.new.self in
    let lent = c.part_mut.result.now in
    let kept = c.seek.ensures.keeps in
    let lies = c.seek.ensures.lies_still in
    let took = taken_by (λ r. TakesPart reading (words p.of.now) g.A.SplitEnd.way g.F.FnMut (parts_state p) r (parts_state q))
    c.seek.result reading (words q.of.now) (words lent) (g.V.BitsMut.place lent)
    (length (g.V.Bits.bits lent)) q.head q.len q.start q.size (g.V.Bits.bits lent) c.if-seek.true
    (g.met.V.BitsMut.window lent) c.part_mut.ensures.words c.part_mut.ensures.place c.part_mut.ensures.len lies.found
    c.seek.ensures.parts in (
      (
        refl,
        (λ w. (
          record {
            view_is = refl;
            loan = kept.loan;
            place_is = kept.place_is;
            len_is = kept.len_is;
            lent_place = c.part_mut.ensures.place ∙ ap (λ at. at + q.start) kept.place_is;
            lent_len = c.part_mut.ensures.len;
            left_within = lies.left;
            lent_within = lies.found;
            shorter = c.seek.ensures.shorter c.if-seek.true;
            callable = c.seek.ensures.callable_still;
          },
          took,
        )),
        tt,
      ),
      record {
        variant = search (rules, c.seek.ensures.found);
        words = c.part_mut.ensures.words ∙ kept.words_are;
        lender = c.part_mut.ensures.lender ∙ kept.lender_is;
        lends = tt;
      },
    )
