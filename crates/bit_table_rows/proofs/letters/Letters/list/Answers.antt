use Rattle.std.proofs.Common.{map, sym, ap, ◌∙◌, arith}
use Rattle.bit_addressing_memory.specs.Memory.{read_by}
use Rattle.bit_containers_vector.specs.Vector.{vec_bits}
use Rattle.bit_table_layout.specs.LetterSets.{bears}
use Rattle.bit_table_rows.proofs.ColumnLemmas.{column_is, column_size}
use Rattle.bit_table_rows.proofs.MarkLemmas.{column_marked}
use Rattle.bit_table_rows.proofs.SpaceLemmas.{sets_are}
use Rattle.bit_table_rows.proofs.letters.Letters.list.Goals as goal

pub returns-clause-bits : goal.returns-clause-bits
returns-clause-bits g c =
    let reading = read_by g.T.BitRegister g.O.Positions.position in
    let lists = c.self.inside.lists in
    let n = c.self.inside.rows in
    let x = c.args.letter in
    let d = c.index-self-letter.result in
    c.as_bitslice.ensures.bits
    ∙ sym (column_is reading n lists c.self.invariant.0 x d c.requires)
    ∙ sym (column_marked (map (vec_bits reading) lists) n x c.requires
    (column_size reading n lists c.self.invariant.0 x c.requires))
    ∙ ap (map (bears x)) (sets_are c.self.view_is)

-- each list begins in its first word
pub returns-clause-head : goal.returns-clause-head
returns-clause-head g c =
    let h = c.self.invariant.0 in
    let d = c.index-self-letter.result in
    c.as_bitslice.ensures.head ∙ (h.each c.args.letter d (omega (arith, h.count, c.requires))).head
