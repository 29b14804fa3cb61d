use Rattle.std.proofs.Common.{◌≢◌, ◌+◌, ◌-◌, ◌*◌, ◌/◌, length, sym, ap, ap₂, ◌∙◌, arith}
use Rattle.hex.specs.Hex.{IsBytes}
use Rattle.bit_table_layout.specs.Layouts.{row_width}
use Rattle.bit_table_layout.specs.Steps.{is_cut}
use Rattle.bit_table_layout.proofs.LoadLemmas.{no_image-length, is_image-none, is_image-last}
use Rattle.bit_table_layout.proofs.image.is_image.Goals as goal

pub returns-then-bytes-div_ceil : goal.returns-then-bytes-div_ceil
returns-then-bytes-div_ceil c =
    let bytes = c.args.bytes.now in
    let width = ap (λ w. c.args.rows * w) c.row_bits.ensures.bits in
    let other : length bytes ≢ (c.args.rows * row_width c.args.layout.now.fields + 7) / 8 =
    λ e. c.if-bytes-div_ceil.true (omega arith) in
    sym (no_image-length c.args.layout.now c.args.rows bytes c.row_bits.ensures.lawful other)

pub returns-in-None : goal.returns-in-None
returns-in-None c =
    let bytes = c.args.bytes.now in
    let width = ap (λ w. c.args.rows * w) c.row_bits.ensures.bits in
    let none = c.in-None.ensures.item.3 in
    let small : IsBytes bytes = λ i. let fits = c.type_inv.bytes i in omega arith in
    sym (is_image-none c.args.layout.now c.args.rows bytes small (omega arith) (omega arith))

pub returns-in-Some : goal.returns-in-Some
returns-in-Some c =
    let l = c.args.layout.now in
    let bytes = c.args.bytes.now in
    let last = length bytes - 1 in
    let bits = ap (λ w. c.args.rows * w) c.row_bits.ensures.bits in
    let found = c.in-Some.ensures.item.3 in
    let small : IsBytes bytes = λ i. let fits = c.type_inv.bytes i in omega arith in
    c.is_cut.ensures ∙ ap₂ (λ rule n. is_cut rule (n - 8 * last) c.in-Some.last.now) c.rule.ensures bits
    ∙ ap (is_cut l.rule (c.args.rows * row_width l.fields - 8 * last)) (found.1 0)
    ∙ is_image-last l c.args.rows bytes small (omega arith) (omega arith)
