use Rattle.std.proofs.Common.{map, ap, ◌∙◌}
use Rattle.bit_table_layout.specs.LetterSets.{bears}
use Rattle.bit_table_script.proofs.MarkedLemmas.{bears-letters}
use Rattle.bit_table_script.proofs.TableLemmas.{letters_are}
use Rattle.bit_table_script.proofs.table.Table.letter_bits.Goals as goal

pub returns-clause-bits : goal.returns-clause-bits
returns-clause-bits g c =
    let t = c.self.inside in
    let h = c.self.invariant in
    let x = c.args.letter in
    c.list.ensures.bits ∙ ap (λ k. map (bears k) t.letters.sets) c.index.ensures.index
    ∙ ap (map (bears x)) (letters_are _ t.layout _ _ _ c.self.view_is h.0 h.1 h.2)
    ∙ bears-letters x c.args.self.now.shape.rows
