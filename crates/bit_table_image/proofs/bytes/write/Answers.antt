use Rattle.std.proofs.Common.{◌-◌, ◌∙◌, ap, sym, refl}
use Rattle.bit_addressing_memory.specs.Memory.{read_by}
use Rattle.bit_slice_views.specs.View.{view_bits}
use Rattle.bit_table_layout.specs.declared.layout.Rule.TheVariants.{Low, High}
use Rattle.bit_table_layout.specs.Images.{bytes_of}
use Rattle.bit_table_image.proofs.ByteLemmas.{are_bytes_of, if_ok}
use Rattle.bit_table_image.proofs.bytes.write.Goals as goal

pub returns-in-Low : goal.returns-in-Low
returns-in-Low g c =
    let bits = view_bits (read_by g.T.BitRegister g.O.Positions.position) c.args.bits in
    if_ok c.bytes_in.result
    (λ bytes holds. are_bytes_of Low (λ i. i) bytes.items bits (λ i low. refl) holds
    ∙ ap (λ rule. bytes_of rule bits) (sym c.in-Low.is ∙ c.rule-rule.ensures)) c.bytes_in.ensures

pub returns-in-High : goal.returns-in-High
returns-in-High g c =
    let bits = view_bits (read_by g.T.BitRegister g.O.Positions.position) c.args.bits in
    if_ok c.bytes_in-in-High.result
    (λ bytes holds. are_bytes_of High (λ i. 8 - 1 - i) bytes.items bits (λ i low. refl) holds
    ∙ ap (λ rule. bytes_of rule bits) (sym c.in-High.is ∙ c.rule-rule.ensures)) c.bytes_in-in-High.ensures
