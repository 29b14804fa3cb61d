use Rattle.std.proofs.Common.{◌≡◌, ◌-◌, ap, sym, ◌∙◌}
use Rattle.bit_slice_fields.specs.Number.{lower_bits}
use Rattle.bit_slice_fields.proofs.WeightLemmas.{least_inner, least_in_segment}
use Rattle.bit_slice_fields.proofs.digits.weight_in_segment.Goals as goal
use Rattle.bit_slice_fields.proofs.digits.weight_in_segment.Goals.{then-cut, else-cut, then-cut-2, else-cut-2}

pub returns : goal.returns
returns c =
    let cut = c.args.cut in
    let b = c.args.bits in
    let n = c.args.n in
    let from = c.args.from in
    let end = c.args.end in
    let lower : c.if-cut.lower ≡ lower_bits cut.le b cut.head n from = elim c.if-cut.branch [
      | then-cut w ↦
          w.lower-is ∙ c.saturating_sub-start.ensures ∙ ap (λ le. lower_bits le b cut.head n from) (sym w.if-cut.true)
      | else-cut w ↦
          w.lower-is
          ∙ ap (λ last. n - last) c.min-last.ensures
          ∙ ap (λ le. lower_bits le b cut.head n from) (sym w.if-cut.false)
    ] in
    let inner : c.if-cut-2.inner ≡ least_inner cut.low b cut.head n from end = elim c.if-cut-2.branch [
      | then-cut-2 w ↦
          w.inner-is
          ∙ ap (λ start. from - start) c.saturating_sub-start.ensures
          ∙ ap (λ low. least_inner low b cut.head n from end) (sym w.if-cut-2.true)
      | else-cut-2 w ↦
          w.inner-is
          ∙ ap (λ last. last - end) c.min-last.ensures
          ∙ ap (λ low. least_inner low b cut.head n from end) (sym w.if-cut-2.false)
    ] in
    rw (lower, inner)
    (sym (least_in_segment cut.low cut.le b cut.head n from end c.requires.some c.requires.order c.requires.within
    c.requires.segment))
