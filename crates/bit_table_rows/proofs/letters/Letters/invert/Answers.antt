use Rattle.std.proofs.Common.{map, not, set as put, sym, ap, ◌∙◌, arith}
use Rattle.std.proofs.lemmas.List.{map-set}
use Rattle.std.proofs.lemmas.Simd.{map-map}
use Rattle.bit_addressing_memory.specs.Memory.{read_by}
use Rattle.bit_containers_vector.specs.Vector.{vec_bits}
use Rattle.bit_table_layout.specs.LetterSets.{bears}
use Rattle.bit_table_rows.specs.Marks.{decided, marks_of}
use Rattle.bit_table_rows.proofs.ColumnLemmas.{column_is, column_size, columns_count}
use Rattle.bit_table_rows.proofs.MarkLemmas.{column_marked}
use Rattle.bit_table_rows.proofs.PutLemmas.{marks_decided}
use Rattle.bit_table_rows.proofs.SpaceLemmas.{columns_framed, sets_are, space_framed}
use Rattle.bit_table_rows.proofs.letters.Letters.invert.Goals as goal

pub returns-clause-sets : goal.returns-clause-sets
returns-clause-sets g c =
    let reading = read_by g.T.BitRegister g.O.Positions.position in
    let lists = c.self.inside.lists in
    let n = c.self.inside.rows in
    let h = c.self.invariant.0 in
    let x = c.args.letter in
    let cols = map (vec_bits reading) lists in
    ap (marks_of n) (map-set (vec_bits reading) lists x c.invert.new.self
    ∙ ap (put cols x) (c.invert.ensures.bits
    ∙ ap (map not) (sym (column_is reading n lists h x _ c.requires)
    ∙ sym (column_marked cols n x c.requires (column_size reading n lists h x c.requires)))
    ∙ map-map not (bears x) (marks_of n cols)))
    ∙ marks_decided cols n x (columns_count reading n lists h) c.requires (λ s. not (bears x s))
    ∙ ap (decided x (λ s. not (bears x s))) (sets_are c.self.view_is)

pub invariant_of-self : goal.invariant_of-self
invariant_of-self g c =
    let reading = read_by g.T.BitRegister g.O.Positions.position in
    let h = c.self.invariant in (
      columns_framed reading c.self.inside.rows c.self.inside.lists h.0 c.args.letter c.index-self-letter.result
          c.invert.new.self c.requires c.invert.ensures.len c.invert.ensures.frame,
      space_framed reading c.self.inside.rows c.self.inside.space c.self.inside.lists h.1 c.args.letter
          c.index-self-letter.result c.invert.new.self (omega (arith, h.0.count, c.requires)) c.invert.ensures.frame,
    )
