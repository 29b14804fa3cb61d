use Rattle.std.proofs.Common.{◌+◌, ◌≤◌, false, length, map, set as put, sym, ap, subst, ◌∙◌, arith}
use Rattle.std.specs.List.{range_with_len}
use Rattle.std.proofs.lemmas.List.{map-set}
use Rattle.std.proofs.lemmas.List.FromFn.{get_or-map-range_with_len, length-map-range_with_len}
use Rattle.bit_addressing_memory.specs.Bits.{digit_at}
use Rattle.bit_addressing_memory.specs.Memory.{read_by, with_piece}
use Rattle.bit_containers_vector.specs.Vector.{vec_bits}
use Rattle.bit_table_rows.specs.Marks.{marks_of, TellsRows}
use Rattle.bit_table_rows.proofs.ColumnLemmas.{column_is, column_size, columns_count}
use Rattle.bit_table_rows.proofs.MarkLemmas.{length-marks}
use Rattle.bit_table_rows.proofs.PutLemmas.{marks_told}
use Rattle.bit_table_rows.proofs.SpaceLemmas.{columns_framed, sets_are, space_framed}
use Rattle.bit_table_rows.proofs.letters.Letters.put_many.Goals as goal

pub put_bits-requires-clause-within : goal.put_bits-requires-clause-within
put_bits-requires-clause-within g c =
    let reading = read_by g.T.BitRegister g.O.Positions.position in
    let lists = c.self.inside.lists in
    let h = c.self.invariant.0 in
    let x = c.args.letter in
    let size = (h.each x c.index-self-letter.result (omega (arith, h.count, c.requires.letter))).len in
    omega (
      arith,
      size,
      c.requires.rows,
      ap length (sets_are c.self.view_is),
      length-marks (map (vec_bits reading) lists) c.self.inside.rows,
    )

pub returns-clause-sets : goal.returns-clause-sets
returns-clause-sets g c =
    let reading = read_by g.T.BitRegister g.O.Positions.position in
    let lists = c.self.inside.lists in
    let n = c.self.inside.rows in
    let h = c.self.invariant.0 in
    let x = c.args.letter in
    let first = c.args.first in
    let count = c.args.count in
    let digit = digit_at c.args.digits in
    let ys = map digit (range_with_len 0 count) in
    let cols = map (vec_bits reading) lists in
    let inside : first + count ≤ n = omega (arith, c.requires.rows, ap length (sets_are c.self.view_is), length-marks cols n) in
    let after =
    map-set (vec_bits reading) lists x c.put_bits.new.view
    ∙ ap (put cols x) (c.put_bits.ensures.bits
    ∙ ap (λ l. with_piece l first ys) (sym (column_is reading n lists h x _ c.requires.letter))) in
    subst (λ old. TellsRows x first count digit old (marks_of n (map (vec_bits reading) (put lists x c.put_bits.new.view))))
    (sets_are c.self.view_is)
    (subst (λ now. TellsRows x first count digit (marks_of n cols) (marks_of n now)) (sym after)
    (marks_told cols n x (columns_count reading n lists h) c.requires.letter first count digit ys inside
    (column_size reading n lists h x c.requires.letter) (length-map-range_with_len digit 0 count)
    (λ k low. get_or-map-range_with_len digit 0 count k k false low (omega arith))))

pub invariant_of-self : goal.invariant_of-self
invariant_of-self g c =
    let reading = read_by g.T.BitRegister g.O.Positions.position in
    let h = c.self.invariant in (
      columns_framed reading c.self.inside.rows c.self.inside.lists h.0 c.args.letter c.index-self-letter.result
          c.put_bits.new.view c.requires.letter c.put_bits.ensures.len c.put_bits.ensures.frame,
      space_framed reading c.self.inside.rows c.self.inside.space c.self.inside.lists h.1 c.args.letter
          c.index-self-letter.result c.put_bits.new.view (omega (arith, h.0.count, c.requires.letter)) c.put_bits.ensures.frame,
    )
