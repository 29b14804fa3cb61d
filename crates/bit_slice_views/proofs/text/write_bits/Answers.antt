use Rattle.std.proofs.Common.{false, ap, subst}
use Rattle.std.specs.Fmt.{WritesOnOk, digits}
use Rattle.bit_addressing_span.specs.Texts.{numbers_text}
use Rattle.bit_slice_views.proofs.TextLemmas.{groups_one}
use Rattle.bit_slice_views.proofs.text.write_bits.Goals as goal

pub returns : goal.returns
returns g c =
    subst (λ text. WritesOnOk g.W.Write.write_str_gives c.args.f.now c.write_groups.result text c.write_groups.new.f)
    (ap (numbers_text (digits 16 false)) (groups_one (g.V.Bits.bits c.args.view.now))) c.write_groups.ensures
