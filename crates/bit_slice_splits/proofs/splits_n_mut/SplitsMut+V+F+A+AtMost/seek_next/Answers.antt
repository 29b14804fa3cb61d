use Rattle.std.proofs.Common.{◌-◌, arith}
use Rattle.bit_addressing_memory.specs.Memory.{read_by}
use Rattle.bit_slice_splits.specs.SplitsMut.{parts_found}
use Rattle.bit_slice_splits.specs.Takes.{parts_state}
use Rattle.bit_slice_splits.proofs.SeekLemmas.{counted_apart}
use Rattle.bit_slice_splits.proofs.splits_n_mut.SplitsMut+V+F+A+AtMost.seek_next.Goals as goal

pub returns-else-most-eq1-clause-parts : goal.returns-else-most-eq1-clause-parts
returns-else-most-eq1-clause-parts g c =
    let reading = read_by g.V.Store.BitRegister g.V.Order.Positions.position in
    let words = g.V.BitsMut.words in
    let p = c.args.self.now in
    let q = c.seek.new.self in
    record {
      none = λ h. absurd (omega arith);
      one = λ h. absurd (omega arith);
      more = λ h. (
        omega (arith, c.seek.ensures.most),
        counted_apart reading (words p.of.now) g.A.SplitEnd.way g.F.FnMut (parts_state p) (p.most - 1)
            (parts_found reading words c.seek.result q) (parts_state q) c.seek.ensures.parts,
      );
    }
