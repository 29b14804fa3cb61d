use Rattle.std.proofs.Common.{◌-◌, ◌*◌, arith, ◌∙◌}
use Rattle.bit_table_rows.proofs.EditLemmas.{copied_part}
use Rattle.bit_table_rows.proofs.PlaceLemmas.{place_apart, place_order, place_part}
use Rattle.bit_table_rows.proofs.edits.copy_rows.Goals as goal

pub move_within-requires-clause-target : goal.move_within-requires-clause-target
move_within-requires-clause-target g c = omega (
  arith,
  c.requires.rows,
  place_apart c.args.p c.args.q c.args.w c.requires.order,
  place_part c.args.r (c.args.q - c.args.p) c.args.n c.args.w c.requires.target,
)

pub returns-clause-bits : goal.returns-clause-bits
returns-clause-bits g c =
    let within = place_order c.args.q c.args.n c.args.w c.requires.within in
    c.move_within.ensures.bits
    ∙ copied_part (g.V.Bits.bits c.args.view.now) (c.args.p * c.args.w) (c.args.q * c.args.w) (c.args.r * c.args.w)
    (place_order c.args.p c.args.q c.args.w c.requires.order) (omega (arith, c.requires.rows))
