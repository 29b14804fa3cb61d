use Rattle.bit_addressing_memory.proofs.Common.{◌-◌, refl, arith, read_by}
use Rattle.bit_slice_words.proofs.ShiftLemmas.{shifted_left}
use Rattle.bit_slice_words.proofs.shift.shift_left_in.Goals as goal

pub returns : goal.returns
returns g c = record {
  shifted =
      shifted_left (read_by g.R.BitRegister g.O.Positions.position) c.args.words.now c.move_words.new.words
      c.fill_in-2.new.words c.args.place c.args.len c.args.by (c.args.len - c.args.by) (omega arith) refl
      c.move_words.ensures.moved c.fill_in-2.ensures.filled;
}
