use Rattle.std.proofs.Common.{◌≡◌, ◌+◌, ◌*◌, ◌/◌, ◌%◌, ◌<◌, false, true, length, get_or, sym, ap, ◌∙◌, arith}
use Rattle.std.proofs.lemmas.Bool.{eqb-true}
use Rattle.std.proofs.lemmas.List.{get_or_default}
use Rattle.std.proofs.lemmas.Nat.{div-add-mod', div_below, mod_below}
use Rattle.bit_addressing_memory.specs.Bits.{digit_at}
use Rattle.bit_addressing_memory.specs.Memory.{read_by}
use Rattle.bit_addressing_memory.specs.Sweep.{sweep_words}
use Rattle.bit_slice_words.proofs.StretchLemmas.{digit_found}
use Rattle.bit_slice_words.specs.Stretch.{bit_found}
use Rattle.bit_table_rows.proofs.keep.holds_no_one.Goals as goal

pub returns-clause-zeros : goal.returns-clause-zeros
returns-clause-zeros g c all p low high =
    let reading = read_by g.T.BitRegister g.O.Positions.position in
    let b = reading.bits in
    let some : 0 < b = omega (arith, g.met.T.BitRegister.least_bits) in
    let words = sweep_words c.args.sweep.now in
    let zeros = c.no_digits.result in
    let j = p / b in
    let i = p % b in
    let whole : c.leading.result ≡ c.args.count = eqb-true c.leading.result c.args.count all in
    let near : j < c.args.count = div_below p b c.args.count some high in
    let place : j * b + i ≡ p = div-add-mod' p b in
    let word = get_or words j zeros in
    let within : j < length words = omega (arith, near, c.requires) in
    let none : reading.digit word i ≡ false =
    ap (λ n. digit_at n (g.O.Positions.position i)) (c.leading.ensures.equal j (omega (arith, whole, near)))
    ∙ c.no_digits.ensures i (mod_below p b some) in
    ap (bit_found reading words true) (sym place)
    ∙ sym (digit_found reading words true j i word (mod_below p b some) within
    (get_or_default words j zeros word within))
    ∙ none
