use Rattle.bit_addressing_memory.specs.Memory.{read_by}
use Rattle.bit_slice_words.proofs.CountLemmas.{trues_fit}
use Rattle.bit_slice_words.proofs.count.count_zeros_in.Goals as goal

pub overflow_sub-result : goal.overflow_sub-result
overflow_sub-result g c =
    let reading = read_by g.R.BitRegister g.O.Positions.position in
    trues_fit reading c.args.words.now c.args.place c.args.len _ c.requires.lies.within c.count_ones_in.ensures
