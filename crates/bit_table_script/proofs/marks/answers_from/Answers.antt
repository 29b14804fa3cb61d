use Rattle.std.proofs.Common.{ℕ, ◌+◌, ◌*◌, Bool, ap, sym, ◌∙◌, arith, of_z, to_z}
use mir.Syntax.{w128}
use Rattle.std.proofs.lemmas.Int.{to_z-of_z}
use Rattle.bit_addressing_memory.specs.Memory.{piece, read_by}
use Rattle.bit_slice_views.specs.View.{view_bits}
use Rattle.bit_table_commands.specs.Marks.{passes}
use Rattle.bit_table_fields.specs.Windows.{number_held}
use Rattle.bit_table_script.proofs.MarkedLemmas.{none_told}
use Rattle.bit_table_script.proofs.marks.answers_from.Goals as goal

pub loop-k-init : goal.loop-k-init
loop-k-init g c = none_told _

pub overflow_mul-k : goal.overflow_mul-k
overflow_mul-k g c =
    let inside = c.requires.within c.loop-k.k c.loop-k-test.true in
    omega (arith, inside, c.len-bits.ensures, c.len-bits.type_inv)

pub overflow_add-place : goal.overflow_add-place
overflow_add-place g c =
    let inside = c.requires.within c.loop-k.k c.loop-k-test.true in
    omega (arith, inside, c.len-bits.ensures, c.len-bits.type_inv)

pub loop-k-preserved : goal.loop-k-preserved
loop-k-preserved g c =
    let held = view_bits (read_by g.T.BitRegister g.O.Positions.position) c.args.bits in
    let column = c.args.column in
    let asked = to_z w128 (of_z w128 c.args.value) in
    let says : ℕ → Bool =
    λ k. passes c.args.test (number_held column.rule column.signed column.digits
    (piece held (c.args.place + k * column.stride) column.digits)) asked in
    let number = to_z-of_z w128 c.number_in-number.result (record { sfits = c.number_in-number.type_inv }) in
    c.with_answer-answers.ensures says
    (sym (c.passes.ensures ∙ ap (λ m. passes c.args.test m asked) (number ∙ c.number_in-number.ensures)))
    c.loop-k.invariant
