use Rattle.std.proofs.Common.{◌≡◌, ℕ, ◌+◌, ◌-◌, ◌*◌, ◌≤◌, List, Bool, length, take, subst, ap, ◌∙◌, arith}
use Rattle.bit_addressing_memory.specs.Memory.{read_by}
use Rattle.bit_containers_vector.proofs.CallerLemmas.{room_framed}
use Rattle.bit_containers_vector.specs.Vector.{vec_bits}
use Rattle.bit_slice_views_mut.specs.Frame.{Frame}
use Rattle.bit_table_rows.specs.RowEdits.{deleted}
use Rattle.bit_table_rows.specs.RowMoves.{rows_moved}
use Rattle.bit_table_rows.proofs.EditLemmas.{rows_removed}
use Rattle.bit_table_rows.proofs.one_row.delete_bit.Goals as goal

-- a row of one bit lies where its number says
removed : (xs : List Bool) (p n : ℕ) → p + 1 ≤ n → length xs ≡ n
    → take (n - 1) (rows_moved 1 xs (p + 1) p n) ≡ deleted xs p (p + 1)
removed xs p n within size =
    let from : p * 1 ≡ p = omega arith in
    let upto : (p + 1) * 1 ≡ p + 1 = omega arith in
    let rows : length xs ≡ n * 1 = omega (arith, size) in
    let left : n - 1 ≡ n * 1 - (p + 1 - p) * 1 = omega arith in
    let is = rows_removed xs p (p + 1) n 1 (n - 1) (omega arith) within rows left in
    let begun = subst (λ a. take (n - 1) (rows_moved 1 xs (p + 1) p n) ≡ deleted xs a ((p + 1) * 1)) from is in
    subst (λ b. take (n - 1) (rows_moved 1 xs (p + 1) p n) ≡ deleted xs p b) upto begun

pub returns-clause-bits : goal.returns-clause-bits
returns-clause-bits g c =
    let reading = read_by g.T.BitRegister g.O.Positions.position in
    let n = c.args.n in
    record {
      bits =
          c.truncate.ensures.bits ∙ ap (take (n - 1)) c.move_back-writes.ensures.bits
          ∙ removed (vec_bits reading c.args.list.now) c.args.p n (omega (arith, c.requires.within)) c.requires.column.len;
      head = c.truncate.ensures.head ∙ ap (λ (f : Frame ℕ). f.place) c.move_back-writes.ensures.frame;
      room = omega (
        arith,
        c.truncate.ensures.room,
        room_framed reading c.args.list.now c.move_back-writes.new.view c.move_back-writes.ensures.frame,
      );
    }
