use Rattle.std.proofs.Common.{◌≡◌, ℕ, ◌*◌, ◌<◌, ◌≤◌, ◌/◌, true, take, refl, sym, ap, ap₂, ◌∙◌, arith}
use Rattle.std.proofs.Math.Nat.{div-lt_iff_lt-mul}
use Rattle.bit_table_layout.specs.declared.layout.TheConstants.{MAX_BITS}
use Rattle.bit_table_layout.specs.Loads.{bits_of_bytes, is_image}
use Rattle.bit_table_layout.proofs.CallerLemmas.{row_width-bounds, length-is_image, table_bits-rows_in_bytes}
use Rattle.bit_table_image.proofs.LoadedLemmas.{only_loaded}
use Rattle.bit_table_image.proofs.loads.read.Goals as goal

-- more rows than so many bits have, by the width: more bits
too_many : (rows width most : ℕ) → 1 ≤ width → most / width < rows → most < rows * width
too_many rows width most some over = (div-lt_iff_lt-mul {k = width} {x = most} {y = rows} (omega arith)).0 over

pub returns-then-rows-width-clause-full : goal.returns-then-rows-width-clause-full
returns-then-rows-width-clause-full g c =
    let width = c.row_bits-width.ensures in
    let some = row_width-bounds c.args.layout.now width.lawful in
    let bits = ap (λ w. c.args.rows * w) width.bits in
    let over = too_many c.args.rows c.row_bits-width.result MAX_BITS (omega arith) c.if-rows-width.true in
    (λ _. omega arith, λ _. refl)

pub returns-then-rows-width-clause-image : goal.returns-then-rows-width-clause-image
returns-then-rows-width-clause-image g c =
    let width = c.row_bits-width.ensures in
    let some = row_width-bounds c.args.layout.now width.lawful in
    let bits = ap (λ w. c.args.rows * w) width.bits in
    let over = too_many c.args.rows c.row_bits-width.result MAX_BITS (omega arith) c.if-rows-width.true in
    (λ never. absurd cc, λ both. absurd (omega (arith, both.0)))

pub first_bits-requires-clause-enough : goal.first_bits-requires-clause-enough
first_bits-requires-clause-enough g c =
    let l = c.args.layout.now in
    let bits = ap (λ w. c.args.rows * w) c.row_bits-width.ensures.bits in
    let image : is_image l c.args.rows c.args.bytes.now ≡ true = sym c.is_image.ensures ∙ c.if-not-is_image.false in
    let size = length-is_image l c.args.rows c.args.bytes.now c.row_bits-width.ensures.lawful image in
    omega arith

pub returns-in-Ok-clause-rows : goal.returns-in-Ok-clause-rows
returns-in-Ok-clause-rows g c =
    let l = c.args.layout.now in
    let bits = ap (λ w. c.args.rows * w) c.row_bits-width.ensures.bits in
    let image : is_image l c.args.rows c.args.bytes.now ≡ true = sym c.is_image.ensures ∙ c.if-not-is_image.false in
    c.in-Ok.ensures.bits ∙ ap₂ (λ n rule. take n (bits_of_bytes rule c.args.bytes.now)) bits c.rule.ensures
    ∙ sym (table_bits-rows_in_bytes l c.args.rows c.args.bytes.now c.row_bits-width.ensures.lawful image)

pub returns-in-Ok-clause-only : goal.returns-in-Ok-clause-only
returns-in-Ok-clause-only g c =
    let l = c.args.layout.now in
    let image : is_image l c.args.rows c.args.bytes.now ≡ true = sym c.is_image.ensures ∙ c.if-not-is_image.false in
    only_loaded l c.args.rows c.args.bytes.now c.row_bits-width.ensures.lawful image
