use Rattle.std.proofs.Common.{length, map, sym, ap, ◌∙◌, arith}
use Rattle.std.proofs.lemmas.Bool.{false≢true}
use Rattle.std.proofs.lemmas.Result.{err_from_is_err_and}
use Rattle.bit_addressing_memory.specs.Memory.{read_by}
use Rattle.bit_containers_vector.specs.Vector.{vec_bits}
use Rattle.bit_table_rows.specs.Marks.{marks_of}
use Rattle.bit_table_rows.proofs.ColumnLemmas.{columns_after, columns_same}
use Rattle.bit_table_rows.proofs.MarkLemmas.{length-marks}
use Rattle.bit_table_rows.proofs.SpaceLemmas.{refused_same, sets_are, space_after, space_is}
use Rattle.bit_table_rows.proofs.letters.Letters.reserve.Goals as goal

pub make_space-requires : goal.make_space-requires
make_space-requires g c =
    let reading = read_by g.T.BitRegister g.O.Positions.position in
    record {
      columns = c.self.invariant.0.each;
      space = c.self.invariant.1.each;
      most =
          omega (
            arith,
            c.requires,
            ap length (sets_are c.self.view_is),
            length-marks (map (vec_bits reading) c.self.inside.lists) c.self.inside.rows,
          );
    }

pub invariant_of-self : goal.invariant_of-self
invariant_of-self g c =
    let reading = read_by g.T.BitRegister g.O.Positions.position in
    let lists = c.self.inside.lists in
    let n = c.self.inside.rows in
    let h = c.self.invariant in
    let same = c.make_space.ensures.same in (
      columns_after reading n lists h.0 c.make_space.new.lists n (λ bits. bits) same h.0.short (λ xs same. same),
      space_after reading n c.self.inside.space lists h.1 n c.make_space.new.lists (λ bits. bits) same h.1.within,
    )

pub invariant_of-self-2 : goal.invariant_of-self-2
invariant_of-self-2 g c =
    let reading = read_by g.T.BitRegister g.O.Positions.position in
    let lists = c.self.inside.lists in
    let n = c.self.inside.rows in
    let h = c.self.invariant in
    let same = c.make_space.ensures.same in (
      columns_after reading n lists h.0 c.make_space.new.lists n (λ bits. bits) same h.0.short (λ xs same. same),
      record { within = omega (arith, c.in_ok-space.ensures.enough); each = c.in_ok-space.ensures.each },
    )

pub returns-in_err-space-clause-err : goal.returns-in_err-space-clause-err
returns-in_err-space-clause-err g c =
    let reading = read_by g.T.BitRegister g.O.Positions.position in
    let p = err_from_is_err_and c.from_residual.result c.from_residual.ensures.1 in
    rw p.1 (refused_same reading c.self.inside.rows c.self.inside.space c.self.inside.lists c.make_space.new.lists
    c.make_space.ensures.same
    ∙ c.self.view_is)

pub returns-in_err-space-clause-sets : goal.returns-in_err-space-clause-sets
returns-in_err-space-clause-sets g c =
    let reading = read_by g.T.BitRegister g.O.Positions.position in
    ap (marks_of c.self.inside.rows)
    (columns_same reading c.self.inside.lists c.make_space.new.lists c.make_space.ensures.same)
    ∙ (sets_are c.self.view_is)

pub returns-clause-sets : goal.returns-clause-sets
returns-clause-sets g c =
    let reading = read_by g.T.BitRegister g.O.Positions.position in
    ap (marks_of c.self.inside.rows)
    (columns_same reading c.self.inside.lists c.make_space.new.lists c.make_space.ensures.same)
    ∙ (sets_are c.self.view_is)

pub returns-clause-ok : goal.returns-clause-ok
returns-clause-ok g c =
    let reading = read_by g.T.BitRegister g.O.Positions.position in
    omega (
      arith,
      length-marks (map (vec_bits reading) c.make_space.new.lists) c.self.inside.rows,
      c.in_ok-space.ensures.enough,
    )

pub returns-in_err-space-clause-succeeds : goal.returns-in_err-space-clause-succeeds
returns-in_err-space-clause-succeeds g c few =
    let reading = read_by g.T.BitRegister g.O.Positions.position in
    let size = sym (ap length (sets_are c.self.view_is))
    ∙ length-marks (map (vec_bits reading) c.self.inside.lists) c.self.inside.rows in
    absurd (false≢true ((c.in_err-space.ensures).succeeds
    (omega (arith, few, size, space_is c.self.view_is))))
