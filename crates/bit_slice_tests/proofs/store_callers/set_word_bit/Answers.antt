use Rattle.std.proofs.Common.{◌≡◌, true, set, sym, ap, ◌∙◌}
use Rattle.bit_addressing_memory.specs.Memory.{memory, read_by}
use Rattle.bit_slice_views.specs.Words.{one_word}
use Rattle.bit_slice_views.proofs.ViewLemmas.{view_one}
use Rattle.bit_slice_tests.proofs.store_callers.set_word_bit.Goals as goal

pub returns : goal.returns
returns g c =
    let reading = read_by g.T.BitRegister g.O.Positions.position in
    let old = c.args.word.now in
    let one = one_word old c.set_first.new.words (c.set_first.ensures.count ∙ c.from_mut.ensures.len) in
    sym (view_one reading _) ∙ ap (memory reading) one ∙ c.set_first.ensures.bits
    ∙ ap (λ words. set (memory reading words) 0 true) c.from_mut.ensures.value
    ∙ ap (λ bits. set bits 0 true) (view_one reading old)
