use Rattle.std.proofs.Common.{◌*◌, ◌≡◌, arith, sym, ap, ◌∙◌}
use Rattle.bit_table_rows.specs.RowEdits.{exchanged}
use Rattle.bit_table_rows.proofs.EditLemmas.{exchanged_back, exchanged_same}
use Rattle.bit_table_rows.proofs.PlaceLemmas.{place_end}
use Rattle.bit_table_rows.proofs.edits.swap_rows.Goals as goal

pub returns-then-q-p-clause-bits : goal.returns-then-q-p-clause-bits
returns-then-q-p-clause-bits g c =
    let apart = place_end c.args.q c.args.p c.args.w c.if-q-p.true in
    let inside = place_end c.args.p c.args.n c.args.w c.requires.first in
    c.swap_parts-then-q-p.ensures.bits
    ∙ exchanged_back (g.V.Bits.bits c.args.view.now) (c.args.q * c.args.w) (c.args.p * c.args.w) c.args.w apart
    (omega (arith, c.requires.rows))

-- a row with itself
pub returns-else-q-p-clause-bits : goal.returns-else-q-p-clause-bits
returns-else-q-p-clause-bits g c =
    let xs = g.V.Bits.bits c.args.view.now in
    let inside = place_end c.args.p c.args.n c.args.w c.requires.first in
    let same : c.args.q ≡ c.args.p = omega (arith, c.if-p-q.false, c.if-q-p.false) in
    sym (ap (λ q. exchanged xs (c.args.p * c.args.w) (q * c.args.w) c.args.w) same
    ∙ exchanged_same xs (c.args.p * c.args.w) c.args.w (omega (arith, c.requires.rows)))
