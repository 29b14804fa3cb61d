use Rattle.std.proofs.Common.{◌<◌, length, map, set as put, get_or, sym, ap, ◌∙◌, arith}
use Rattle.std.specs.FinSet as set
use Rattle.std.proofs.lemmas.List.{map-set}
use Rattle.bit_addressing_memory.specs.Memory.{read_by}
use Rattle.bit_containers_vector.specs.Vector.{vec_bits}
use Rattle.bit_table_layout.specs.LetterSets.{with_letter}
use Rattle.bit_table_rows.specs.Marks.{marks_of}
use Rattle.bit_table_rows.proofs.ColumnLemmas.{column_is, column_size, columns_count}
use Rattle.bit_table_rows.proofs.MarkLemmas.{length-marks}
use Rattle.bit_table_rows.proofs.PutLemmas.{marks_put}
use Rattle.bit_table_rows.proofs.SpaceLemmas.{columns_framed, sets_are, space_framed}
use Rattle.bit_table_rows.proofs.letters.Letters.put.Goals as goal

pub set-requires : goal.set-requires
set-requires g c =
    let reading = read_by g.T.BitRegister g.O.Positions.position in
    let lists = c.self.inside.lists in
    let h = c.self.invariant.0 in
    let x = c.args.letter in
    let size = (h.each x c.index-self-letter.result (omega (arith, h.count, c.requires.letter))).len in
    omega (
      arith,
      size,
      c.requires.row,
      ap length (sets_are c.self.view_is),
      length-marks (map (vec_bits reading) lists) c.self.inside.rows,
    )

pub returns-clause-sets : goal.returns-clause-sets
returns-clause-sets g c =
    let reading = read_by g.T.BitRegister g.O.Positions.position in
    let lists = c.self.inside.lists in
    let n = c.self.inside.rows in
    let h = c.self.invariant.0 in
    let x = c.args.letter in
    let k = c.args.row in
    let b = c.args.bears_it in
    let cols = map (vec_bits reading) lists in
    let inside : k < n =
    omega (arith, c.requires.row, ap length (sets_are c.self.view_is), length-marks cols n) in
    ap (marks_of n) (map-set (vec_bits reading) lists x c.set.new.self
    ∙ ap (put cols x) (c.set.ensures.bits ∙ ap (λ l. put l k b) (sym (column_is reading n lists h x _ c.requires.letter))))
    ∙ marks_put cols n x (columns_count reading n lists h) c.requires.letter k b inside
    (column_size reading n lists h x c.requires.letter)
    ∙ ap (λ ms. put ms k (with_letter x b (get_or ms k set.empty))) (sets_are c.self.view_is)

pub invariant_of-self : goal.invariant_of-self
invariant_of-self g c =
    let reading = read_by g.T.BitRegister g.O.Positions.position in
    let h = c.self.invariant in (
      columns_framed reading c.self.inside.rows c.self.inside.lists h.0 c.args.letter c.index-self-letter.result
          c.set.new.self c.requires.letter c.set.ensures.len c.set.ensures.frame,
      space_framed reading c.self.inside.rows c.self.inside.space c.self.inside.lists h.1 c.args.letter
          c.index-self-letter.result c.set.new.self (omega (arith, h.0.count, c.requires.letter)) c.set.ensures.frame,
    )
