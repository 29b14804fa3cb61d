use Rattle.std.proofs.Common.{◌<◌, ◌≤◌, false, sym, ap, ◌∙◌, arith}
use Rattle.bit_addressing_memory.specs.Bits.{digit_at, bits_in_order}
use Rattle.bit_addressing_memory.specs.Memory.{read_by}
use Rattle.bit_addressing_memory.proofs.OrderCallerLemmas.{get_or-bits_in_order, length-bits_in_order}
use Rattle.bit_slice_words.proofs.ListLemmas.{overwritten_list}
use Rattle.bit_slice_views_mut.proofs.FrameLemmas.{overwritten_beside}
use Rattle.bit_slice_fields.specs.Digits.{cut_weight}
use Rattle.bit_slice_fields.proofs.DigitsLemmas.{stored_bits}
use Rattle.bit_slice_fields.proofs.digits.store_window.Goals as goal

pub returns-clause-list : goal.returns-clause-list
returns-clause-list g c =
    let cut = c.args.cut in
    let b = g.T.BitRegister.BITS in
    let len = c.args.len in
    let digits = c.digits.result in
    let weighs = cut_weight cut b len in
    let some : 0 < b = omega (arith, g.met.T.BitRegister.least_bits) in
    let few : len ≤ 128 = omega (arith, c.requires.room, g.met.M.Integral.most_bits) in
    overwritten_list (read_by g.T.BitRegister g.O.Positions.position) c.args.words.now c.scatter.new.words c.args.place
    len some c.requires.within (λ k. digit_at digits (weighs k)) (bits_in_order weighs len digits)
    (length-bits_in_order weighs len digits)
    (λ k low. sym (get_or-bits_in_order weighs len digits k false low)) c.scatter.ensures
    ∙ ap (bits_in_order weighs len) c.digits.ensures
    ∙ stored_bits cut.low cut.le b cut.head len (g.M.Integral.whole c.args.value) some few

pub returns-clause-beside : goal.returns-clause-beside
returns-clause-beside g c =
    overwritten_beside (read_by g.T.BitRegister g.O.Positions.position) c.args.words.now c.scatter.new.words
    c.args.place c.args.len c.args.place c.args.len
    (λ k. digit_at c.digits.result (cut_weight c.args.cut g.T.BitRegister.BITS c.args.len k)) (omega arith) (omega arith)
    c.scatter.ensures
