use Rattle.bit_addressing_memory.specs.Memory.{read_by}
use Rattle.bit_slice_words.proofs.RotateLemmas.{rotated}
use Rattle.bit_slice_words.proofs.rotate.rotate_by_turns.Goals as goal

pub returns : goal.returns
returns g c = record {
  rotated =
      rotated (read_by g.R.BitRegister g.O.Positions.position) c.args.words.now c.reverse_in.new.words
      c.reverse_in-2.new.words c.reverse_in-3.new.words c.args.place c.args.len c.args.by c.requires.most
      c.reverse_in.ensures.reversed c.reverse_in-2.ensures.reversed c.reverse_in-3.ensures.reversed;
}
