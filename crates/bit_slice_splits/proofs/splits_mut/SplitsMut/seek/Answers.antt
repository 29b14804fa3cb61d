use Rattle.bit_addressing_memory.specs.Memory.{read_by}
use Rattle.bit_slice_splits.specs.Takes.{parts_state}
use Rattle.bit_slice_splits.proofs.SeekLemmas.{length-left, part_lies}
use Rattle.bit_slice_splits.proofs.splits_mut.SplitsMut.seek.Goals as goal

pub returns-clause-parts : goal.returns-clause-parts
returns-clause-parts g c =
    let reading = read_by g.V.Store.BitRegister g.V.Order.Positions.position in
    let words = g.V.BitsMut.words in
    let p = c.args.self.now in
    let r = c.parted-part in
    let many = length-left reading (words p.of.now) p.head p.len p.from p.count c.requires.lies.left
    c.requires.lies.fits in
    let lies = part_lies reading (words p.of.now) g.W.SplitEnd.way g.F.FnMut (parts_state p) r.result.start r.result.len
    r.result.rest r.result.rest_len r.result.last r.new.f c.if-self.false many r.ensures.parts r.ensures.within
    r.ensures.rest_within in
    rw r.ensures.words lies
