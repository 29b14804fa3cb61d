use Rattle.std.proofs.Common.{length, map, get_or, set as put, sym, ap, ◌∙◌, arith}
use Rattle.std.specs.Simd.Lanes.{zip2}
use Rattle.std.proofs.lemmas.Simd.{length-zip2}
use Rattle.bit_addressing_memory.specs.Memory.{read_by}
use Rattle.bit_containers_vector.specs.Vector.{vec_bits}
use Rattle.bit_table_layout.specs.Letters.{combined}
use Rattle.bit_table_layout.specs.LetterSets.{bears}
use Rattle.bit_table_rows.specs.Marks.{decided, list_of, marks_of}
use Rattle.bit_table_rows.proofs.ColumnLemmas.{bits_changed, column_is, column_size, columns_changed, columns_count}
use Rattle.bit_table_rows.proofs.ColumnLemmas.{some_list}
use Rattle.bit_table_rows.proofs.CombineLemmas.{marks_combined}
use Rattle.bit_table_rows.proofs.MarkLemmas.{length-marks}
use Rattle.bit_table_rows.proofs.SpaceLemmas.{sets_are, space_changed}
use Rattle.bit_table_rows.proofs.letters.Letters.combine.Goals as goal

pub invariant_of-self : goal.invariant_of-self
invariant_of-self g c =
    let reading = read_by g.T.BitRegister g.O.Positions.position in
    let lists = c.self.inside.lists in
    let h = c.self.invariant.0 in
    let y = c.args.other in (
      columns_changed reading c.self.inside.rows lists h c.combine_lists.new.lists c.args.letter
          (λ d bits. zip2 (combined c.args.op) bits (vec_bits reading (get_or lists y d))) c.requires.letter
          c.combine_lists.ensures.changed
          (λ d xs long. let its = (h.each y d (omega (arith, h.count, c.requires.other))).len in
          length-zip2 (combined c.args.op) xs (vec_bits reading (get_or lists y d)) (long ∙ sym its) ∙ long),
      space_changed reading c.self.inside.rows c.self.inside.space lists c.self.invariant.1 c.combine_lists.new.lists
          c.args.letter (λ d bits. zip2 (combined c.args.op) bits (vec_bits reading (get_or lists y d)))
          (omega (arith, h.count, c.requires.letter)) c.combine_lists.ensures.changed,
    )

pub returns-clause-sets : goal.returns-clause-sets
returns-clause-sets g c =
    let reading = read_by g.T.BitRegister g.O.Positions.position in
    let lists = c.self.inside.lists in
    let n = c.self.inside.rows in
    let h = c.self.invariant.0 in
    let x = c.args.letter in
    let y = c.args.other in
    let how = combined c.args.op in
    let cols = map (vec_bits reading) lists in
    let d = some_list lists h.count in
    ap (marks_of n) (bits_changed reading n lists h c.combine_lists.new.lists x
    (λ d bits. zip2 how bits (vec_bits reading (get_or lists y d))) c.requires.letter c.combine_lists.ensures.changed d
    ∙ ap (λ bits. put cols x (zip2 how (list_of cols x) bits)) (sym (column_is reading n lists h y d c.requires.other)))
    ∙ marks_combined c.args.op cols n x y (columns_count reading n lists h) c.requires.letter c.requires.other
    (column_size reading n lists h x c.requires.letter) (column_size reading n lists h y c.requires.other)
    ∙ ap (decided x (λ letters. how (bears x letters) (bears y letters))) (sets_are c.self.view_is)

pub returns-clause-steps : goal.returns-clause-steps
returns-clause-steps g c =
    let reading = read_by g.T.BitRegister g.O.Positions.position in
    let size = sym (ap length (sets_are c.self.view_is))
    ∙ length-marks (map (vec_bits reading) c.self.inside.lists) c.self.inside.rows in
    λ apart. rw size (c.combine_lists.ensures.steps apart)
