use Rattle.std.proofs.Common.{◌≡◌, ◌<◌, Some, Bool, [], length, map, take, get_or, sym, ap, ◌∙◌, arith, refl, ℤ, to_z, of_z}
use Rattle.std.specs.Prelude.{slice_get, slice_index_or, slice_set}
use mir.Syntax.{w128}
use Rattle.std.specs.FinSet as set
use Rattle.std.proofs.lemmas.Int.{to_z-of_z}
use Rattle.std.proofs.lemmas.List.{get_or-map, length-map, take_all}
use Rattle.std.proofs.lemmas.Option.{slice_get-get_or}
use Rattle.bit_addressing_memory.specs.Memory.{read_by}
use Rattle.bit_containers_vector.specs.Vector.{vec_bits}
use Rattle.bit_table_layout.specs.Readings.{rows_from}
use Rattle.bit_table_layout.specs.Rows.{Row, new_row}
use Rattle.bit_table_layout.proofs.RowLemmas.{length-rows_from}
use Rattle.bit_table_layout.specs.LetterSets.{with_letter}
use Rattle.bit_table_commands.specs.Marks.{number_in_field, passes}
use Rattle.bit_table_rows.proofs.RowListCallerLemmas.{number_within}
use Rattle.bit_table_script.specs.Told.{told}
use Rattle.bit_table_script.proofs.MarkedLemmas.{length-told, told_more}
use Rattle.bit_table_script.proofs.NumberLemmas.{number_at}
use Rattle.bit_table_script.proofs.marks.mark_singly.Goals as goal

pub loop-row-init : goal.loop-row-init
loop-row-init g c = record { sets = refl; space = refl }

pub number_in-number-requires-clause-within : goal.number_in-number-requires-clause-within
number_in-number-requires-clause-within g c =
    let l = c.args.layout.now in
    let bits = vec_bits (read_by g.T.BitRegister g.O.Positions.position) c.args.bits.now in
    let shape = c.index-fields-field.result in
    let got : shape ≡ get_or l.fields c.args.field shape =
    c.index-fields-field.is ∙ ap (λ fs. get_or fs c.args.field shape) c.fields.ensures.fields in
    let is : slice_get l.fields c.args.field ≡ Some shape =
    slice_get-get_or l.fields c.args.field shape c.requires.field ∙ ap Some (sym got) in
    let low : c.loop-row.row < length c.args.letters.now.sets = omega (arith, c.loop-row-test.true, c.rows-row-end.ensures) in
    rw (c.as_bitslice-view.ensures.bits, c.row_bits.ensures.bits, c.bits_before-first.ensures, c.width.ensures.width)
    (number_within l (length c.args.letters.now.sets) bits c.requires.bits c.loop-row.row c.args.field shape low is)

pub put-requires : goal.put-requires
put-requires g c =
    let size = ap length c.loop-row.invariant.sets ∙ length-told c.args.letter _ c.args.letters.now.sets in
    (omega arith, (c.requires.letter, omega (arith, size, c.loop-row-test.true, c.rows-row-end.ensures)))

pub loop-row-preserved : goal.loop-row-preserved
loop-row-preserved g c =
    let l = c.args.layout.now in
    let n = length c.args.letters.now.sets in
    let i = c.loop-row.row in
    let bits = vec_bits (read_by g.T.BitRegister g.O.Positions.position) c.args.bits.now in
    let rows = rows_from l n bits in
    let asked = to_z w128 (of_z w128 c.args.value) in
    let decide : Row → Bool = λ row. passes c.args.test (number_in_field (Some c.args.field) row) asked in
    let shape = c.index-fields-field.result in
    let got : shape ≡ get_or l.fields c.args.field shape =
    c.index-fields-field.is ∙ ap (λ fs. get_or fs c.args.field shape) c.fields.ensures.fields in
    let is : slice_get l.fields c.args.field ≡ Some shape =
    slice_get-get_or l.fields c.args.field shape c.requires.field ∙ ap Some (sym got) in
    let low : i < n = omega (arith, c.loop-row-test.true, c.rows-row-end.ensures) in
    let count = length-rows_from l n bits in
    let size = length-map rows decide in
    let found = rw (
      c.as_bitslice-view.ensures.bits,
      c.row_bits.ensures.bits,
      c.rule.ensures,
      c.bits_before-first.ensures,
      c.width.ensures.width,
      c.signed.ensures,
    ) at c.number_in-number.ensures in
    let number = found ∙ number_at l n bits c.requires.bits i c.args.field shape (new_row []) low is in
    let sized = to_z-of_z w128 c.number_in-number.result (record { sfits = c.number_in-number.type_inv }) in
    let told_so = c.passes.ensures ∙ ap (λ m. passes c.args.test m asked) (sized ∙ number) in
    let flag : c.passes.result ≡ get_or (map decide rows) i c.passes.result =
    told_so ∙ sym (get_or-map decide rows i (new_row []) c.passes.result (omega (arith, low, count))) in
    record {
      sets =
          c.put.ensures.sets
          ∙ ap (λ ls. slice_set ls i (with_letter c.args.letter c.passes.result (slice_index_or ls i set.empty)))
          c.loop-row.invariant.sets
          ∙ ap (λ b. slice_set (told c.args.letter (take i (map decide rows)) c.args.letters.now.sets) i
          (with_letter c.args.letter b
          (slice_index_or (told c.args.letter (take i (map decide rows)) c.args.letters.now.sets) i set.empty))) flag
          ∙ sym (told_more c.args.letter (map decide rows) i c.passes.result c.args.letters.now.sets
          (omega (arith, low, count, size)) (omega (arith, count, size)));
      space = c.put.ensures.space ∙ c.loop-row.invariant.space;
    }

pub returns-clause-sets : goal.returns-clause-sets
returns-clause-sets g c =
    let l = c.args.layout.now in
    let n = length c.args.letters.now.sets in
    let bits = vec_bits (read_by g.T.BitRegister g.O.Positions.position) c.args.bits.now in
    let rows = rows_from l n bits in
    let marks = c.args.letters.now.sets in
    let asked = to_z w128 (of_z w128 c.args.value) in
    let decide : ℤ → Row → Bool = λ v row. passes c.args.test (number_in_field (Some c.args.field) row) v in
    let upto : c.loop-row.letters.sets ≡ told c.args.letter (take c.loop-row.row (map (decide asked) rows)) marks =
    c.loop-row.invariant.sets in
    let whole : take c.loop-row.row (map (decide asked) rows) ≡ map (decide asked) rows =
    take_all c.loop-row.row (map (decide asked) rows)
    (omega (arith, length-map rows (decide asked), length-rows_from l n bits, c.loop-row-test.false, c.rows-row-end.ensures))
    in
    upto ∙ ap (λ flags. told c.args.letter flags marks) whole
    ∙ ap (λ v. told c.args.letter (map (decide v) rows) marks) (to_z-of_z w128 c.args.value c.ranges.value)
