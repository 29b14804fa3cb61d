use Rattle.std.proofs.Common.{refl, false}
use Rattle.std.specs.Fmt.{digits}
use Rattle.bit_addressing_span.specs.Domain.{domain_numbers}
use Rattle.bit_addressing_span.specs.Texts.{numbers_text}
use Rattle.bit_addressing_span.proofs.domain_text.DomainMutLowerHex.fmt.Goals as goal

pub returns : goal.returns
returns g c = λ few.
    let numbers = domain_numbers g.R.BitRegister.number g.O.OrderCandidate.masked c.as_domain.result in (
      numbers_text (digits 16 false) numbers,
      record { shown = c.as_domain.result; cut = c.as_domain.ensures.cut; is = refl },
      c.write_domain.ensures few,
    )
