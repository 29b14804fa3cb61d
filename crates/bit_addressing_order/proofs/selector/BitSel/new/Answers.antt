use Rattle.std.proofs.Common.{◌==◌, count_ones, ap, ◌∙◌}
use Rattle.bit_addressing_order.proofs.SelectorLemmas.{one_bit_is_selector}
use Rattle.bit_addressing_order.proofs.selector.BitSel.new.Goals as goal

-- the number of a word with one bit set
pub new_unchecked-requires : goal.new_unchecked-requires
new_unchecked-requires g c =
    let test = c.is_power_of_two.ensures ∙ ap (λ n. count_ones n == 1) c.value.ensures in
    (one_bit_is_selector _ _ _ test (g.met.R.BitRegister.number_fits c.args.word)).0 c.if-is_power_of_two.true
