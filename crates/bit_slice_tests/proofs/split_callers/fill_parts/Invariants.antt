use Rattle.std.proofs.Common.{◌≡◌, ℕ, ◌+◌, ◌<◌, true, false, cond, get_or, length}
use denote.Param.Always.{always_mut}
use Rattle.bit_addressing_memory.specs.Memory.{read_by}
use Rattle.bit_slice_splits.specs.SplitsMut.{parts_around, parts_whole, LiesIn}
use Rattle.bit_slice_tests.proofs.split_callers.fill_parts.Given as goal

abbrev pub invariant-loop-part : goal.invariant-loop-part
invariant-loop-part g l = record {
  callable : always_mut g.F.FnMut l.parts.f;
  loan : l.parts.of.ghost_name ≡ l.initial.parts.of.ghost_name;
  len : l.parts.len ≡ length (g.V.Bits.bits l.fn.view);
  lies : LiesIn g.V.Store.BitRegister.BITS g.V.BitsMut.words l.parts;
  ends : l.parts.from + l.parts.count ≡ l.parts.len;
  ended : l.parts.done ≡ true → l.parts.count ≡ 0;
  filled : (k : ℕ) → k < l.parts.from → get_or (parts_whole
      (read_by g.V.Store.BitRegister g.V.Order.Positions.position) g.V.BitsMut.words l.parts) k false ≡ true;
  around : parts_around (read_by g.V.Store.BitRegister g.V.Order.Positions.position) g.V.BitsMut.lender
      g.V.BitsMut.words l.parts ≡ g.V.BitsMut.frame l.fn.view;
}

abbrev pub decreases-loop-part : goal.decreases-loop-part
decreases-loop-part g l = cond l.parts.done 0 (l.parts.count + 1)
