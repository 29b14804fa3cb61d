use Rattle.std.proofs.Common.{arith, ◌*◌, ◌≤◌, ◌∙◌, ap, length, not, take}
use Rattle.std.proofs.lemmas.List.Sums.{count_by-le-length}
use Rattle.bit_addressing_memory.specs.Memory.{read_by}
use Rattle.bit_containers_vector.specs.Vector.{vec_bits}
use Rattle.bit_slice_views.specs.View.{view_bits}
use Rattle.bit_table_rows.proofs.MoveCallerLemmas.{front_kept}
use Rattle.bit_table_rows.specs.RowsKept.{rows_kept}
use Rattle.bit_table_rows.proofs.PlaceLemmas.{place_order}
use Rattle.bit_table_rows.proofs.vectors.keep_counted_of.Goals as goal

-- no more rows stay than there are, whose bits a `usize` counts
pub overflow_mul-left : goal.overflow_mul-left
overflow_mul-left g c =
    let off = view_bits (read_by g.T.BitRegister g.O.Positions.position) c.args.off in
    let few = count_by-le-length not off in
    let left : c.args.left ≤ c.args.n = omega (arith, few, c.requires.flags, c.requires.left) in
    let most = place_order c.args.left c.args.n c.args.w left in
    omega (arith, c.requires.rows, c.len-bits.ensures)

pub returns-clause-bits : goal.returns-clause-bits
returns-clause-bits g c =
    let reading = read_by g.T.BitRegister g.O.Positions.position in
    let off = view_bits reading c.args.off in
    let bits = vec_bits reading c.args.vector.now in
    let rows : length off * c.args.w ≤ length bits =
    omega (arith, c.requires.rows, ap (λ m. m * c.args.w) c.requires.flags) in
    c.truncate.ensures.bits
    ∙ ap (take (c.args.left * c.args.w)) c.keep_counted_in-writes.ensures.bits
    ∙ ap (λ m. take (m * c.args.w) (rows_kept c.args.w off bits)) c.requires.left
    ∙ front_kept c.args.w off bits rows
