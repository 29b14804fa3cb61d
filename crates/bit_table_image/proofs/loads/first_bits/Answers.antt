use Rattle.std.proofs.Common.{◌-◌, ◌∙◌, take, ap, sym, refl, arith}
use Rattle.bit_table_layout.specs.declared.layout.Rule.TheVariants.{Low, High}
use Rattle.bit_table_layout.specs.Loads.{bits_of_bytes}
use Rattle.bit_table_image.proofs.ByteLemmas.{first_of_bytes, if_ok}
use Rattle.bit_table_image.proofs.loads.first_bits.Goals as goal

pub returns-in-Low-clause-bits : goal.returns-in-Low-clause-bits
returns-in-Low-clause-bits g c =
    let bytes = c.args.bytes.now in
    if_ok c.bits_in.result
    (λ bits had. had ∙ first_of_bytes Low (λ i. i) bytes c.args.len (λ i low. refl)
    (λ k. omega (arith, c.type_inv.bytes k)) c.requires.enough
    ∙ ap (λ rule. take c.args.len (bits_of_bytes rule bytes)) (sym c.in-Low.is)) c.bits_in.ensures.bits

pub returns-in-High-clause-bits : goal.returns-in-High-clause-bits
returns-in-High-clause-bits g c =
    let bytes = c.args.bytes.now in
    if_ok c.bits_in-in-High.result
    (λ bits had. had
    ∙ first_of_bytes High (λ i. 8 - 1 - i) bytes c.args.len (λ i low. refl)
    (λ k. omega (arith, c.type_inv.bytes k)) c.requires.enough
    ∙ ap (λ rule. take c.args.len (bits_of_bytes rule bytes)) (sym c.in-High.is)) c.bits_in-in-High.ensures.bits
