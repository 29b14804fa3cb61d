use Rattle.std.proofs.Common.{◌≡◌, ℕ, ◌+◌, ◌*◌, ◌<◌, ◌≤◌, Some, Bool, List, [], length, map, take, get_or, sym, ap, subst, ◌∙◌}
use Rattle.std.proofs.Common.{arith, refl, false, ℤ, to_z, of_z}
use Rattle.std.specs.Prelude.{slice_get}
use mir.Syntax.{w128}
use Rattle.std.proofs.lemmas.Int.{to_z-of_z}
use Rattle.std.proofs.lemmas.List.{get_or-map, length-map, take_all}
use Rattle.std.proofs.lemmas.Option.{slice_get-get_or}
use Rattle.bit_addressing_memory.specs.Memory.{read_by}
use Rattle.bit_addressing_memory.specs.Bits.{digit_at}
use Rattle.bit_containers_vector.specs.Vector.{vec_bits}
use Rattle.bit_table_layout.specs.Fields.{FieldShape}
use Rattle.bit_table_layout.specs.Readings.{rows_from}
use Rattle.bit_table_layout.specs.Rows.{Row, new_row}
use Rattle.bit_table_layout.proofs.RowLemmas.{length-rows_from}
use Rattle.bit_table_commands.specs.Marks.{number_in_field, passes}
use Rattle.bit_table_rows.specs.Marks.{TellsRows}
use Rattle.bit_table_script.specs.Told.{told}
use Rattle.bit_table_script.proofs.MarkedLemmas.{length-told, take_chunk, told_on}
use Rattle.bit_table_script.proofs.NumberLemmas.{behind_within, number_behind}
use Rattle.bit_table_script.proofs.marks.mark_by_blocks.Goals as goal

pub loop-block-init : goal.loop-block-init
loop-block-init g c = record { sets = refl; space = refl }

-- field f of the layout
shape_is : (fields all : List FieldShape) (f : ℕ) (shape : FieldShape) → f < length fields → all ≡ fields
    → shape ≡ get_or all f shape → slice_get fields f ≡ Some shape
shape_is fields all f shape low same is =
    slice_get-get_or fields f shape low ∙ ap Some (sym (is ∙ ap (λ fs. get_or fs f shape) same))

-- the first number of the block lies among the bits
pub overflow_mul-place : goal.overflow_mul-place
overflow_mul-place g c =
    let l = c.args.layout.now in
    let n = length c.args.letters.now.sets in
    let bits = vec_bits (read_by g.T.BitRegister g.O.Positions.position) c.args.bits.now in
    let shape = c.index-fields-field.result in
    let is = shape_is l.fields _ c.args.field shape c.requires.field c.fields.ensures.fields c.index-fields-field.is in
    let size = ap length c.loop-block.invariant.sets ∙ length-told c.args.letter _ c.args.letters.now.sets in
    let low : 64 * c.loop-block.block + 0 < n = omega (arith, c.loop-block-test.true, c.rows-rows.ensures, size) in
    let lies =
    behind_within l n bits c.requires.bits (64 * c.loop-block.block) 0 c.args.field shape low is bits _ _ _ refl
    c.row_bits.ensures.bits c.bits_before-before.ensures c.width.ensures.width in
    omega (arith, lies, c.len-bits.ensures, c.len-bits.type_inv)

pub overflow_add-place : goal.overflow_add-place
overflow_add-place g c =
    let l = c.args.layout.now in
    let n = length c.args.letters.now.sets in
    let bits = vec_bits (read_by g.T.BitRegister g.O.Positions.position) c.args.bits.now in
    let shape = c.index-fields-field.result in
    let is = shape_is l.fields _ c.args.field shape c.requires.field c.fields.ensures.fields c.index-fields-field.is in
    let size = ap length c.loop-block.invariant.sets ∙ length-told c.args.letter _ c.args.letters.now.sets in
    let low : 64 * c.loop-block.block + 0 < n = omega (arith, c.loop-block-test.true, c.rows-rows.ensures, size) in
    let lies =
    behind_within l n bits c.requires.bits (64 * c.loop-block.block) 0 c.args.field shape low is bits _ _ _ refl
    c.row_bits.ensures.bits c.bits_before-before.ensures c.width.ensures.width in
    omega (arith, lies, c.len-bits.ensures, c.len-bits.type_inv)

pub answers_from-answers-requires-clause-within : goal.answers_from-answers-requires-clause-within
answers_from-answers-requires-clause-within g c =
    let l = c.args.layout.now in
    let n = length c.args.letters.now.sets in
    let bits = vec_bits (read_by g.T.BitRegister g.O.Positions.position) c.args.bits.now in
    let shape = c.index-fields-field.result in
    let is = shape_is l.fields _ c.args.field shape c.requires.field c.fields.ensures.fields c.index-fields-field.is in
    let size = ap length c.loop-block.invariant.sets ∙ length-told c.args.letter _ c.args.letters.now.sets in
    λ k low.
    let inside : 64 * c.loop-block.block + k < n = omega (arith, low, c.rows-rows.ensures, size, c.min-count.ensures) in
    behind_within l n bits c.requires.bits (64 * c.loop-block.block) k c.args.field shape inside is _ _ _ _
    c.as_bitslice-view.ensures.bits c.row_bits.ensures.bits c.bits_before-before.ensures c.width.ensures.width

pub put_many-requires : goal.put_many-requires
put_many-requires g c =
    let size = ap length c.loop-block.invariant.sets ∙ length-told c.args.letter _ c.args.letters.now.sets in
    let some : 0 < c.min-count.result = omega (arith, c.loop-block-test.true, c.min-count.ensures) in
    let few : c.min-count.result ≤ 64 = omega (arith, c.min-count.ensures) in
    let inside : 64 * c.loop-block.block + c.min-count.result ≤ length c.loop-block.letters.sets =
    omega (arith, size, c.loop-block-test.true, c.rows-rows.ensures, c.min-count.ensures) in
    (omega arith, (c.requires.letter, (some, (few, inside))))

pub loop-block-preserved : goal.loop-block-preserved
loop-block-preserved g c =
    let l = c.args.layout.now in
    let n = length c.args.letters.now.sets in
    let bits = vec_bits (read_by g.T.BitRegister g.O.Positions.position) c.args.bits.now in
    let rows = rows_from l n bits in
    let marks = c.args.letters.now.sets in
    let x = c.args.letter in
    let asked = to_z w128 (of_z w128 c.args.value) in
    let decide : Row → Bool = λ row. passes c.args.test (number_in_field (Some c.args.field) row) asked in
    let shape = c.index-fields-field.result in
    let is = shape_is l.fields _ c.args.field shape c.requires.field c.fields.ensures.fields c.index-fields-field.is in
    let size = ap length c.loop-block.invariant.sets ∙ length-told x _ marks in
    let long : length (map decide rows) ≡ n = length-map rows decide ∙ length-rows_from l n bits in
    let first : ℕ = 64 * c.loop-block.block in
    let count = c.min-count.result in
    let digit = digit_at c.answers_from-answers.result in
    let same : (k : ℕ) → k < count → digit k ≡ get_or (map decide rows) (first + k) false =
    λ k low.
    let inside : first + k < n = omega (arith, low, c.rows-rows.ensures, size, c.min-count.ensures) in
    c.answers_from-answers.ensures.inside k low
    ∙ ap (λ m. passes c.args.test m asked)
    (number_behind l n bits c.requires.bits first k c.args.field shape inside is _ _ _ _
    c.as_bitslice-view.ensures.bits c.row_bits.ensures.bits c.bits_before-before.ensures c.width.ensures.width
    (new_row []) _ _ c.rule.ensures c.signed.ensures)
    ∙ sym (get_or-map decide rows (first + k) (new_row []) false (omega (arith, inside, length-rows_from l n bits))) in
    let next : first + 64 ≡ 64 * (c.loop-block.block + 1) = omega arith in
    record {
      sets =
          told_on x first count digit (map decide rows) marks c.put_many.new.self.sets
          (omega (arith, long, c.rows-rows.ensures, size, c.min-count.ensures)) (omega (arith, long)) same
          (subst (λ was. TellsRows x first count digit was c.put_many.new.self.sets) c.loop-block.invariant.sets c.put_many.ensures.sets)
          ∙ ap (λ fs. told x fs marks) (take_chunk first count (map decide rows)
          (omega (arith, long, c.rows-rows.ensures, size, c.min-count.ensures)))
          ∙ ap (λ m. told x (take m (map decide rows)) marks) next;
      space = c.put_many.ensures.space ∙ c.loop-block.invariant.space;
    }

pub returns-clause-sets : goal.returns-clause-sets
returns-clause-sets g c =
    let l = c.args.layout.now in
    let n = length c.args.letters.now.sets in
    let bits = vec_bits (read_by g.T.BitRegister g.O.Positions.position) c.args.bits.now in
    let rows = rows_from l n bits in
    let marks = c.args.letters.now.sets in
    let asked = to_z w128 (of_z w128 c.args.value) in
    let decide : ℤ → Row → Bool = λ v row. passes c.args.test (number_in_field (Some c.args.field) row) v in
    let upto : c.loop-block.letters.sets ≡ told c.args.letter (take (64 * c.loop-block.block) (map (decide asked) rows)) marks =
    c.loop-block.invariant.sets in
    let whole : take (64 * c.loop-block.block) (map (decide asked) rows) ≡ map (decide asked) rows =
    take_all (64 * c.loop-block.block) (map (decide asked) rows)
    (omega (
      arith,
      length-map rows (decide asked),
      length-rows_from l n bits,
      c.div_ceil-block-end.ensures,
      c.loop-block-test.false,
      c.rows-rows.ensures,
    )) in
    upto ∙ ap (λ flags. told c.args.letter flags marks) whole
    ∙ ap (λ v. told c.args.letter (map (decide v) rows) marks) (to_z-of_z w128 c.args.value c.ranges.value)
