use Rattle.std.proofs.Common.{◌+◌, ◌-◌, ◌*◌, ◌<◌, ◌≡◌, false, ◌++◌, length, replicate, arith, ap, ◌∙◌}
use Rattle.std.proofs.lemmas.List.{length-replicate}
use Rattle.bit_addressing_memory.specs.Memory.{read_by}
use Rattle.bit_containers_vector.specs.Vector.{vec_bits}
use Rattle.bit_table_rows.specs.RowMoves.{rows_moved}
use Rattle.bit_table_rows.proofs.EditLemmas.{rows_opened}
use Rattle.bit_table_rows.proofs.PlaceLemmas.{place_next}
use Rattle.bit_table_rows.proofs.vectors.open_row.Goals as goal

pub returns-clause-ok : goal.returns-clause-ok
returns-clause-ok g c =
    let reading = read_by g.T.BitRegister g.O.Positions.position in
    let n = c.args.n in
    let p = c.args.p in
    let w = c.args.w in
    let xs = vec_bits reading c.args.vector.now in
    let same = c.reserve.ensures.same.bits in
    let rows = c.requires.rows in
    let more : length (vec_bits reading c.reserve.new.self) < (n + 1) * w =
    rw same (omega (arith, rows, place_next n w, c.requires.some)) in
    let ys = replicate ((n + 1) * w - length (vec_bits reading c.reserve.new.self)) false in
    let size : length ys ≡ w =
    length-replicate ((n + 1) * w - length (vec_bits reading c.reserve.new.self)) false
    ∙ rw same (omega (arith, rows, place_next n w)) in
    let longer : vec_bits reading c.resize.new.self ≡ xs ++ ys =
    ((c.in_ok-resize.ensures).longer more).bits ∙ ap (λ l. l ++ ys) same in
    let moved : vec_bits reading c.move_rows_in.new.view ≡ rows_moved w (xs ++ ys) p (p + 1) n =
    c.move_rows_in.ensures.bits ∙ ap (λ l. rows_moved w l p (p + 1) n) longer in
    rw moved (rows_opened xs ys p n w c.requires.within rows size)
