use Rattle.std.proofs.Common.{ℕ, ◌+◌, ◌-◌, ◌*◌, ◌≡◌, ◌≤◌, arith, ap, ◌∙◌}
use Rattle.bit_table_rows.specs.RowEdits.{turned}
use Rattle.bit_table_rows.proofs.EditLemmas.{turned_part}
use Rattle.bit_table_rows.proofs.PlaceLemmas.{place_apart, place_order}
use Rattle.bit_table_rows.proofs.edits.rotate_rows.Goals as goal

pub rotate_part-requires-clause-most : goal.rotate_part-requires-clause-most
rotate_part-requires-clause-most g c = omega (
  arith,
  place_apart c.args.p c.args.q c.args.w c.requires.order,
  place_order c.args.k (c.args.q - c.args.p) c.args.w c.requires.most,
)

pub returns-clause-bits : goal.returns-clause-bits
returns-clause-bits g c =
    let xs = g.V.Bits.bits c.args.view.now in
    let p : ℕ = c.args.p * c.args.w in
    let k : ℕ = c.args.k * c.args.w in
    let m : ℕ = c.args.q * c.args.w - p in
    let order = place_order c.args.p c.args.q c.args.w c.requires.order in
    let within = place_order c.args.q c.args.n c.args.w c.requires.within in
    let most : k ≤ m = omega (
      arith,
      place_apart c.args.p c.args.q c.args.w c.requires.order,
      place_order c.args.k (c.args.q - c.args.p) c.args.w c.requires.most,
    ) in
    let end : p + m ≡ c.args.q * c.args.w = omega arith in
    c.rotate_part.ensures.bits
    ∙ turned_part xs p m k (omega (arith, c.requires.rows)) most
    ∙ ap (λ b. turned xs p b k) end
