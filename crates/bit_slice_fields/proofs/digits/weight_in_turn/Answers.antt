use Rattle.std.proofs.Common.{◌-◌, ap, sym, ◌∙◌}
use Rattle.std.specs.Prelude.{if◌then◌else◌}
use Rattle.bit_slice_fields.specs.Number.{weight}
use Rattle.bit_slice_fields.specs.Pieces.{least_bit}
use Rattle.bit_slice_fields.proofs.WeightLemmas.{least_in_turn}
use Rattle.bit_slice_fields.proofs.digits.weight_in_turn.Goals as goal

pub returns-then-cut : goal.returns-then-cut
returns-then-cut c =
    let cut = c.args.cut in
    ap (λ low. if low then c.args.from else c.args.n - c.args.end) (sym c.if-cut.true)
    ∙ sym (least_in_turn cut.low c.args.bits cut.head c.args.n c.args.from c.args.end c.requires.some c.requires.order
    c.requires.within)
    ∙ ap (λ le. weight cut.low le c.args.bits cut.head c.args.n (least_bit cut.low c.args.from c.args.end))
    c.requires.turn

pub returns-else-cut : goal.returns-else-cut
returns-else-cut c =
    let cut = c.args.cut in
    ap (λ low. if low then c.args.from else c.args.n - c.args.end) (sym c.if-cut.false)
    ∙ sym (least_in_turn cut.low c.args.bits cut.head c.args.n c.args.from c.args.end c.requires.some c.requires.order
    c.requires.within)
    ∙ ap (λ le. weight cut.low le c.args.bits cut.head c.args.n (least_bit cut.low c.args.from c.args.end))
    c.requires.turn
