use Rattle.std.proofs.Common.{◌≡◌, ◌+◌, ◌*◌, ◌<◌, ◌++◌, false, [], ◌∷◌}
use Rattle.std.proofs.Common.{ℕ, length, length-append, refl, sym, subst, ap, ◌∙◌, arith}
use Rattle.bit_addressing_memory.specs.Memory.{read_by}
use Rattle.bit_containers_vector.proofs.CallerLemmas.{room_framed}
use Rattle.bit_containers_vector.specs.Vector.{vec_bits}
use Rattle.bit_slice_views_mut.specs.Frame.{Frame}
use Rattle.bit_table_rows.specs.RowEdits.{Opens}
use Rattle.bit_table_rows.specs.RowMoves.{rows_moved}
use Rattle.bit_table_rows.proofs.EditLemmas.{bit_filled, rows_opened}
use Rattle.bit_table_rows.proofs.one_row.insert_zero.Goals as goal

pub returns-clause-ok : goal.returns-clause-ok
returns-clause-ok g c =
    let reading = read_by g.T.BitRegister g.O.Positions.position in
    let n = c.args.n in
    let p = c.args.p in
    let xs = vec_bits reading c.args.list.now in
    let zs = vec_bits reading c.move_on-writes.new.view in
    let grown = (c.in_ok-push.ensures).ok in
    let size = c.requires.column.len in
    let one : p * 1 ≡ p = omega arith in
    let rows : length xs ≡ n * 1 = omega (arith, size) in
    let moved : zs ≡ rows_moved 1 (xs ++ (false ∷ [])) p (p + 1) n =
    c.move_on-writes.ensures.bits ∙ ap (λ l. rows_moved 1 l p (p + 1) n) grown.bits in
    let opened : Opens xs (rows_moved 1 (xs ++ (false ∷ [])) p (p + 1) n) (p * 1) 1 =
    rows_opened xs (false ∷ []) p n 1 c.requires.within rows refl in
    let here : Opens xs (rows_moved 1 (xs ++ (false ∷ [])) p (p + 1) n) p 1 =
    subst (λ a. Opens xs (rows_moved 1 (xs ++ (false ∷ [])) p (p + 1) n) a 1) one opened in
    let is : Opens xs zs p 1 = subst (λ ys. Opens xs ys p 1) (sym moved) here in
    let inside : p < length zs =
    omega (
      arith,
      c.move_on-writes.ensures.len,
      ap length grown.bits,
      length-append xs (false ∷ []),
      size,
      c.requires.within,
    ) in
    record {
      bits = c.set.ensures.bits ∙ bit_filled xs zs p false inside is;
      head =
          ap (λ (f : Frame ℕ). f.place) (c.set.ensures.frame ∙ c.move_on-writes.ensures.frame) ∙ grown.head;
      room = omega (
        arith,
        (c.in_ok-push.ensures).room,
        room_framed reading c.push.new.self c.set.new.self (c.set.ensures.frame ∙ c.move_on-writes.ensures.frame),
      );
    }
