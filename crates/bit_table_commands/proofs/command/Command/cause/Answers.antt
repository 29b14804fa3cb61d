use Rattle.std.proofs.Common.{◌≡◌, ◌≤◌, ◌*◌, ◌^◌, not, true, false, refl, sym, ap, ◌∙◌, arith}
use Rattle.std.proofs.lemmas.Bool.Decides.{nat_tests}
use Rattle.std.proofs.Math.Nat.{mul-le-mul, mul-le-mul_right}
use Rattle.bit_table_layout.specs.declared.layout.TheConstants.{MAX_ROW_BITS}
use Rattle.bit_table_layout.specs.Layouts.{row_width}
use Rattle.bit_table_layout.proofs.CallerLemmas.{row_width-bounds}
use Rattle.bit_table_commands.specs.CauseSteps.{rows_counted, rows_loaded}
use Rattle.bit_table_commands.proofs.CauseLemmas.{cause-of, cause-by_room, loaded-counted}
use Rattle.bit_table_commands.proofs.command.Command.cause.Goals as goal

pub returns-then-has_wrong_form : goal.returns-then-has_wrong_form
returns-then-has_wrong_form c = λ t h.
    cause-of _ _ _ t c.args.self.now true _ _ _ h (sym c.has_wrong_form.ensures ∙ c.if-has_wrong_form.true)
    refl refl refl

pub returns-then-has_wrong_field : goal.returns-then-has_wrong_field
returns-then-has_wrong_field c = λ t h.
    cause-of _ _ _ t c.args.self.now false true _ _ h (sym c.has_wrong_form.ensures ∙ c.if-has_wrong_form.false)
    (sym c.has_wrong_field.ensures ∙ c.if-has_wrong_field.true) refl refl

pub returns-then-not-is_in_range : goal.returns-then-not-is_in_range
returns-then-not-is_in_range c = λ t h.
    cause-of _ _ _ t c.args.self.now false false true _ h (sym c.has_wrong_form.ensures ∙ c.if-has_wrong_form.false)
    (sym c.has_wrong_field.ensures ∙ c.if-has_wrong_field.false)
    (ap not (sym c.is_in_range.ensures ∙ c.if-not-is_in_range.true)) refl

pub returns-then-has_wrong_value : goal.returns-then-has_wrong_value
returns-then-has_wrong_value c = λ t h.
    cause-of _ _ _ t c.args.self.now false false false true h (sym c.has_wrong_form.ensures ∙ c.if-has_wrong_form.false)
    (sym c.has_wrong_field.ensures ∙ c.if-has_wrong_field.false)
    (ap not (sym c.is_in_range.ensures ∙ c.if-not-is_in_range.false))
    (sym c.has_wrong_value.ensures ∙ c.if-has_wrong_value.true)

pub returns-then-rows_counted-row_bits : goal.returns-then-rows_counted-row_bits
returns-then-rows_counted-row_bits c = λ t h.
    cause-by_room _ _ _ t c.args.self.now true _ _ h (sym c.has_wrong_form.ensures ∙ c.if-has_wrong_form.false)
    (sym c.has_wrong_field.ensures ∙ c.if-has_wrong_field.false)
    (ap not (sym c.is_in_range.ensures ∙ c.if-not-is_in_range.false))
    (sym c.has_wrong_value.ensures ∙ c.if-has_wrong_value.false)
    (let bits : c.rows_counted.result * c.row_bits.result
    ≡ rows_counted c.args.rows c.args.self.now * row_width c.args.layout.now.fields =
    cc (c.rows_counted.ensures.value, c.row_bits.ensures.bits) in
    let room = c.if-rows_counted-row_bits.true in
    grind (arith, nat_tests))
    refl refl

pub returns-then-has_wrong_image : goal.returns-then-has_wrong_image
returns-then-has_wrong_image c = λ t h.
    cause-by_room _ _ _ t c.args.self.now false true _ h (sym c.has_wrong_form.ensures ∙ c.if-has_wrong_form.false)
    (sym c.has_wrong_field.ensures ∙ c.if-has_wrong_field.false)
    (ap not (sym c.is_in_range.ensures ∙ c.if-not-is_in_range.false))
    (sym c.has_wrong_value.ensures ∙ c.if-has_wrong_value.false)
    (let bits : c.rows_counted.result * c.row_bits.result
    ≡ rows_counted c.args.rows c.args.self.now * row_width c.args.layout.now.fields =
    cc (c.rows_counted.ensures.value, c.row_bits.ensures.bits) in
    let room = c.if-rows_counted-row_bits.false in
    grind (arith, nat_tests))
    (sym c.has_wrong_image.ensures ∙ c.if-has_wrong_image.true) refl

pub returns-then-lacks_kept : goal.returns-then-lacks_kept
returns-then-lacks_kept c = λ t h.
    cause-by_room _ _ _ t c.args.self.now false false true h (sym c.has_wrong_form.ensures ∙ c.if-has_wrong_form.false)
    (sym c.has_wrong_field.ensures ∙ c.if-has_wrong_field.false)
    (ap not (sym c.is_in_range.ensures ∙ c.if-not-is_in_range.false))
    (sym c.has_wrong_value.ensures ∙ c.if-has_wrong_value.false)
    (let bits : c.rows_counted.result * c.row_bits.result
    ≡ rows_counted c.args.rows c.args.self.now * row_width c.args.layout.now.fields =
    cc (c.rows_counted.ensures.value, c.row_bits.ensures.bits) in
    let room = c.if-rows_counted-row_bits.false in
    grind (arith, nat_tests))
    (sym c.has_wrong_image.ensures ∙ c.if-has_wrong_image.false) (sym c.lacks_kept.ensures ∙ c.if-lacks_kept.true)

pub returns : goal.returns
returns c = λ t h.
    cause-by_room _ _ _ t c.args.self.now false false false h (sym c.has_wrong_form.ensures ∙ c.if-has_wrong_form.false)
    (sym c.has_wrong_field.ensures ∙ c.if-has_wrong_field.false)
    (ap not (sym c.is_in_range.ensures ∙ c.if-not-is_in_range.false))
    (sym c.has_wrong_value.ensures ∙ c.if-has_wrong_value.false)
    (let bits : c.rows_counted.result * c.row_bits.result
    ≡ rows_counted c.args.rows c.args.self.now * row_width c.args.layout.now.fields =
    cc (c.rows_counted.ensures.value, c.row_bits.ensures.bits) in
    let room = c.if-rows_counted-row_bits.false in
    grind (arith, nat_tests))
    (sym c.has_wrong_image.ensures ∙ c.if-has_wrong_image.false) (sym c.lacks_kept.ensures ∙ c.if-lacks_kept.false)

pub overflow_mul-rows_counted : goal.overflow_mul-rows_counted
overflow_mul-rows_counted c =
    let bits : c.row_bits.result ≤ MAX_ROW_BITS =
    omega (arith, c.row_bits.ensures.bits, (row_width-bounds c.args.layout.now c.row_bits.ensures.lawful).1) in
    let few = c.rows_counted.ensures.few in
    let most : c.rows_counted.result * c.row_bits.result ≤ 2 ^ 65 * MAX_ROW_BITS = mul-le-mul few bits in
    omega (arith, most)

pub has_wrong_image-requires : goal.has_wrong_image-requires
has_wrong_image-requires c =
    let fewer : rows_loaded c.args.self.now * row_width c.args.layout.now.fields
    ≤ rows_counted c.args.rows c.args.self.now * row_width c.args.layout.now.fields =
    mul-le-mul_right (row_width c.args.layout.now.fields) (loaded-counted c.args.rows c.args.self.now) in
    let bits : c.rows_counted.result * c.row_bits.result
    ≡ rows_counted c.args.rows c.args.self.now * row_width c.args.layout.now.fields =
    cc (c.rows_counted.ensures.value, c.row_bits.ensures.bits) in
    let room = c.if-rows_counted-row_bits.false in
    omega (arith, fewer, bits)
