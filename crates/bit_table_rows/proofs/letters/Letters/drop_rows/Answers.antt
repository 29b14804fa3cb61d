use Rattle.std.proofs.Common.{map, get_or, not, sym, ap, ◌∙◌, arith}
use Rattle.std.specs.List.{count_by, filter}
use Rattle.std.proofs.lemmas.List.Sums.{count_by-le-length}
use Rattle.bit_addressing_memory.specs.Memory.{read_by}
use Rattle.bit_containers_vector.specs.Vector.{vec_bits}
use Rattle.bit_table_layout.specs.LetterSets.{bears}
use Rattle.bit_table_rows.specs.Marks.{list_of, marks_of}
use Rattle.bit_table_rows.proofs.ColumnLemmas.{column_after, column_is, column_size, columns_after, some_list}
use Rattle.bit_table_rows.proofs.DropLemmas.{length-left_of, marks_dropped}
use Rattle.bit_table_rows.proofs.MarkLemmas.{length-marks}
use Rattle.bit_table_rows.proofs.SpaceLemmas.{sets_are, space_after}
use Rattle.bit_table_rows.proofs.letters.Letters.drop_rows.Goals as goal
use Rattle.bit_table_rows.specs.RowsKept.{left_of}

pub invariant_of-self : goal.invariant_of-self
invariant_of-self g c =
    let reading = read_by g.T.BitRegister g.O.Positions.position in
    let lists = c.self.inside.lists in
    let n = c.self.inside.rows in
    let h = c.self.invariant.0 in
    let x = c.args.letter in
    let d = some_list lists h.count in
    let off = vec_bits reading (get_or lists x d) in
    let left = c.drop_marked-self-inside.ensures.left d in
    let flags = (h.each x d (omega (arith, h.count, c.requires))).len in
    let fewer = count_by-le-length not off in (
      columns_after reading n lists h c.drop_marked-self-inside.new.lists c.drop_marked-self-inside.result (left_of off)
          (c.drop_marked-self-inside.ensures.dropped d) (omega (arith, left, fewer, flags, h.short))
          (λ xs long. length-left_of off xs (flags ∙ sym long) ∙ sym left),
      space_after reading n c.self.inside.space lists c.self.invariant.1 c.drop_marked-self-inside.result
          c.drop_marked-self-inside.new.lists (left_of off) (c.drop_marked-self-inside.ensures.dropped d)
          (omega (arith, left, fewer, flags, c.self.invariant.1.within)),
    )

pub returns-clause-sets : goal.returns-clause-sets
returns-clause-sets g c =
    let reading = read_by g.T.BitRegister g.O.Positions.position in
    let lists = c.self.inside.lists in
    let n = c.self.inside.rows in
    let h = c.self.invariant.0 in
    let x = c.args.letter in
    let d = some_list lists h.count in
    let cols = map (vec_bits reading) lists in
    let new = c.drop_marked-self-inside.new.lists in
    let after = map (vec_bits reading) new in
    let own = column_is reading n lists h x d c.requires in
    ap (λ m. marks_of m after) (c.drop_marked-self-inside.ensures.left d ∙ ap (count_by not) (sym own))
    ∙ marks_dropped n x cols after c.requires (column_size reading n lists h)
    (λ y low. column_after reading n lists h new n (left_of (vec_bits reading (get_or lists x d)))
    (c.drop_marked-self-inside.ensures.dropped d) y low
    ∙ ap (λ off. left_of off (list_of cols y)) (sym own))
    ∙ ap (filter (λ letters. not (bears x letters))) (sets_are c.self.view_is)

pub returns-clause-writes : goal.returns-clause-writes
returns-clause-writes g c =
    let reading = read_by g.T.BitRegister g.O.Positions.position in
    let size = length-marks (map (vec_bits reading) c.drop_marked-self-inside.new.lists)
    c.drop_marked-self-inside.result in
    λ k d low. rw size (c.drop_marked-self-inside.ensures.writes k d low)
