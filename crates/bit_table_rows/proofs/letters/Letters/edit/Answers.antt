use Rattle.std.proofs.Common.{◌+◌, ◌≤◌, false, length, map, sym, ap, ◌∙◌, subst, arith}
use Rattle.std.specs.FinSet as set
use Rattle.std.proofs.lemmas.Bool.{false≢true}
use Rattle.std.proofs.lemmas.Result.{err_from_is_err_and}
use Rattle.bit_addressing_memory.specs.Memory.{read_by}
use Rattle.bit_slice_views.specs.SpanLimits.{MAX_BITS}
use Rattle.bit_containers_vector.specs.Vector.{vec_bits}
use Rattle.bit_table_rows.specs.Marks.{marks_of}
use Rattle.bit_table_rows.specs.RowEdit.{added, count_after, edited_by, LiesIn}
use Rattle.bit_table_rows.proofs.ColumnLemmas.{column_size, column_after, columns_after}
use Rattle.bit_table_rows.proofs.LetterEditLemmas.{count_most, length-edited, marks_edited}
use Rattle.bit_table_rows.proofs.MarkLemmas.{length-marks}
use Rattle.bit_table_rows.proofs.SpaceLemmas.{refused_same, sets_are, space_after, space_is}
use Rattle.bit_table_rows.proofs.letters.Letters.edit.Goals as goal

pub make_space-requires : goal.make_space-requires
make_space-requires g c =
    let reading = read_by g.T.BitRegister g.O.Positions.position in
    let lists = c.self.inside.lists in
    let n = c.self.inside.rows in
    record {
      columns = c.self.invariant.0.each;
      space = c.self.invariant.1.each;
      most =
          omega (
            arith,
            c.rows_added.ensures,
            c.requires.most,
            ap length (sets_are c.self.view_is),
            length-marks (map (vec_bits reading) lists) n,
          );
    }

pub invariant_of-self : goal.invariant_of-self
invariant_of-self g c =
    let reading = read_by g.T.BitRegister g.O.Positions.position in
    let lists = c.self.inside.lists in
    let n = c.self.inside.rows in
    let h = c.self.invariant in
    let same = c.make_space.ensures.same in (
      columns_after reading n lists h.0 c.make_space.new.lists n (λ bits. bits) same h.0.short (λ xs same. same),
      space_after reading n c.self.inside.space lists h.1 n c.make_space.new.lists (λ bits. bits) same h.1.within,
    )

pub returns-in_err-space-clause-err : goal.returns-in_err-space-clause-err
returns-in_err-space-clause-err g c =
    let reading = read_by g.T.BitRegister g.O.Positions.position in
    let p = err_from_is_err_and c.from_residual.result c.from_residual.ensures.1 in
    rw p.1 (refused_same reading c.self.inside.rows c.self.inside.space c.self.inside.lists c.make_space.new.lists
    c.make_space.ensures.same
    ∙ c.self.view_is)

pub edit_lists-requires-clause-range : goal.edit_lists-requires-clause-range
edit_lists-requires-clause-range g c =
    let reading = read_by g.T.BitRegister g.O.Positions.position in
    subst (λ k. LiesIn k c.args.edit)
    (sym (ap length (sets_are c.self.view_is)) ∙ length-marks (map (vec_bits reading) c.self.inside.lists) c.self.inside.rows)
    c.requires.range

pub edit_lists-requires-clause-most : goal.edit_lists-requires-clause-most
edit_lists-requires-clause-most g c =
    let reading = read_by g.T.BitRegister g.O.Positions.position in
    omega (
      arith,
      c.requires.most,
      ap length (sets_are c.self.view_is),
      length-marks (map (vec_bits reading) c.self.inside.lists) c.self.inside.rows,
    )

pub invariant_of-self-2 : goal.invariant_of-self-2
invariant_of-self-2 g c =
    let reading = read_by g.T.BitRegister g.O.Positions.position in
    let lists = c.self.inside.lists in
    let n = c.self.inside.rows in
    let e = c.args.edit in
    let size = sym (ap length (sets_are c.self.view_is)) ∙ length-marks (map (vec_bits reading) lists) n in
    let within : LiesIn n e = subst (λ k. LiesIn k e) size c.requires.range in
    let most : n + added e ≤ MAX_BITS = omega (arith, c.requires.most, size) in
    let h = columns_after reading n lists c.self.invariant.0 c.make_space.new.lists n (λ bits. bits)
    c.make_space.ensures.same c.self.invariant.0.short (λ xs same. same) in
    let fewer = count_most n e in
    let enough = c.in_ok-space.ensures.enough in (
      columns_after reading n c.make_space.new.lists h c.edit_lists.new.lists c.rows_after-self-inside.result
          (edited_by false e) c.edit_lists.ensures.edited
          (omega (arith, c.rows_after-self-inside.ensures, fewer, most))
          (λ xs long. length-edited e false xs (subst (λ k. LiesIn k e) (sym long) within)
          ∙ ap (λ k. count_after k e) long ∙ sym c.rows_after-self-inside.ensures),
      space_after reading n c.in_ok-space.space c.make_space.new.lists
          (record { within = omega (arith, enough); each = c.in_ok-space.ensures.each })
          c.rows_after-self-inside.result c.edit_lists.new.lists (edited_by false e) c.edit_lists.ensures.edited
          (omega (arith, c.rows_after-self-inside.ensures, c.rows_added.ensures, fewer, enough)),
    )

pub returns-clause-ok : goal.returns-clause-ok
returns-clause-ok g c =
    let reading = read_by g.T.BitRegister g.O.Positions.position in
    let lists = c.self.inside.lists in
    let n = c.self.inside.rows in
    let e = c.args.edit in
    let size = sym (ap length (sets_are c.self.view_is)) ∙ length-marks (map (vec_bits reading) lists) n in
    let within : LiesIn n e = subst (λ k. LiesIn k e) size c.requires.range in
    let h = columns_after reading n lists c.self.invariant.0 c.make_space.new.lists n (λ bits. bits)
    c.make_space.ensures.same c.self.invariant.0.short (λ xs same. same) in
    let after = map (vec_bits reading) c.edit_lists.new.lists in
    ap (λ k. marks_of k after) c.rows_after-self-inside.ensures
    ∙ marks_edited e n (map (vec_bits reading) lists) after within
    (λ x low. (
      column_size reading n lists c.self.invariant.0 x low,
      column_after reading n c.make_space.new.lists h c.edit_lists.new.lists (count_after n e) (edited_by false e)
          c.edit_lists.ensures.edited x low
          ∙ ap (edited_by false e) (column_after reading n lists c.self.invariant.0 c.make_space.new.lists n (λ bits. bits)
          c.make_space.ensures.same x low),
    ))
    ∙ ap (edited_by set.empty e) (sets_are c.self.view_is)

pub returns-clause-writes : goal.returns-clause-writes
returns-clause-writes g c =
    let reading = read_by g.T.BitRegister g.O.Positions.position in
    let size = sym (ap length (sets_are c.self.view_is))
    ∙ length-marks (map (vec_bits reading) c.self.inside.lists) c.self.inside.rows in
    λ k d low. rw size (c.edit_lists.ensures.writes k d low)

pub returns-in_err-space-clause-succeeds : goal.returns-in_err-space-clause-succeeds
returns-in_err-space-clause-succeeds g c few =
    let reading = read_by g.T.BitRegister g.O.Positions.position in
    let size = sym (ap length (sets_are c.self.view_is))
    ∙ length-marks (map (vec_bits reading) c.self.inside.lists) c.self.inside.rows in
    absurd (false≢true ((c.in_err-space.ensures).succeeds
    (omega (arith, few, size, c.rows_added.ensures, space_is c.self.view_is))))
