use Rattle.std.proofs.Common.{◌-◌, ◌*◌, ℕ, length, take, ap, arith, ◌∙◌}
use Rattle.std.proofs.lemmas.List.{length-take-le}
use Rattle.bit_addressing_memory.specs.Memory.{read_by}
use Rattle.bit_containers_vector.specs.Vector.{vec_bits}
use Rattle.bit_table_rows.proofs.EditLemmas.{rows_removed}
use Rattle.bit_table_rows.proofs.PlaceLemmas.{place_apart}
use Rattle.bit_table_rows.proofs.vectors.delete_rows.Goals as goal

pub returns-clause-bits : goal.returns-clause-bits
returns-clause-bits g c =
    let reading = read_by g.T.BitRegister g.O.Positions.position in
    c.truncate.ensures.bits
    ∙ ap (take _) c.move_rows_in-writes.ensures.bits
    ∙ rows_removed (vec_bits reading c.args.vector.now) c.args.p c.args.q c.args.n c.args.w _ c.requires.order
    c.requires.within c.requires.rows
    (omega (arith, c.len.ensures, c.move_rows_in-writes.ensures.len, c.requires.rows))

pub returns-clause-len : goal.returns-clause-len
returns-clause-len g c =
    let reading = read_by g.T.BitRegister g.O.Positions.position in
    let gone : ℕ = (c.args.q - c.args.p) * c.args.w in
    let size = c.move_rows_in-writes.ensures.len in
    let rest = place_apart (c.args.q - c.args.p) c.args.n c.args.w (omega (arith, c.requires.within)) in
    ap length c.truncate.ensures.bits
    ∙ length-take-le _ (vec_bits reading c.move_rows_in-writes.new.view) (omega (arith, c.len.ensures))
    ∙ omega (arith, c.len.ensures, size, c.requires.rows, rest)
