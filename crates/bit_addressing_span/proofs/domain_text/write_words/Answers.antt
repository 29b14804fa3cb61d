use Rattle.std.proofs.Common.{map, refl, subst}
use Rattle.std.proofs.Output.{has_written_append}
use Rattle.std.specs.Fmt.{HasWritten}
use Rattle.bit_addressing_span.specs.Domain.{option_numbers}
use Rattle.bit_addressing_span.specs.Form.{form_text}
use Rattle.bit_addressing_span.proofs.TextLemmas.{cut_text}
use Rattle.bit_addressing_span.proofs.domain_text.write_words.Goals as goal

pub returns-in_ok-write_part-in-Region : goal.returns-in_ok-write_part-in-Region
returns-in_ok-write_part-in-Region g c short plain ok =
    let number = g.R.BitRegister.number in
    let mask = g.O.OrderCandidate.masked in
    let parts = c.in-Region in
    let head = c.in_ok-begun-in-Region in
    let body = c.in_ok-begun_body-in-Region in
    let first = head.ensures.writes short plain refl in
    let second = body.ensures.writes short first.plain refl in
    let third = c.in_ok-write_part-in-Region.ensures.writes short second.plain refl in
    let all = has_written_append _ _ _ _ _ _ (has_written_append _ _ _ _ _ _ first second) third in
    rw c.in-Region.is
    (subst (λ bs. HasWritten g.W.Write.write_str_gives c.args.f.now bs c.write_part-in-Region.new.f)
    (cut_text (form_text c.args.form) (option_numbers number mask parts.head) (map number parts.body.now)
    (option_numbers number mask parts.tail) head.begun body.begun_body head.ensures.begun body.ensures.begun)
    all)
