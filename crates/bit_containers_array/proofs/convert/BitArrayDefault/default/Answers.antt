use Rattle.std.proofs.Common.{ap, ◌∙◌}
use Rattle.bit_containers_array.specs.ZeroLaws.{zero_list}
use Rattle.bit_containers_array.proofs.convert.BitArrayDefault.default.Goals as goal

pub returns : goal.returns
returns g c =
    let is = c.new.ensures ∙ c.ZERO.ensures in (
      is,
      zero_list g.A.Store.BitRegister.BITS g.A.Store.BitRegister.number g.O.Positions.position
          (g.A.BitViewSized.words c.new.result.words) g.A.BitViewSized.COUNT g.A.Store.BitRegister.ZERO
          g.met.A.Store.BitRegister.least_bits (ap g.A.BitViewSized.words is ∙ g.met.A.BitViewSized.zero_words)
          g.met.A.Store.BitRegister.zero_is,
    )
