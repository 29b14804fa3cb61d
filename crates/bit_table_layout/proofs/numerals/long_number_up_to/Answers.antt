use Rattle.std.proofs.Common.{◌≤◌, ◌-◌, ◌^◌, arith}
use Rattle.bit_table_layout.proofs.NumeralLemmas.{number-more}
use Rattle.bit_table_layout.proofs.numerals.long_number_up_to.Goals as goal

pub loop-byte-preserved : goal.loop-byte-preserved
loop-byte-preserved c =
    let w = c.args.word.now in
    let i = c.loop-byte.byte-index in
    let below : c.args.most ≤ 2 ^ 128 - 1 = omega arith in
    let more =
    number-more w (2 ^ 128 - 1) c.args.most c.loop-byte.number i c.requires below (omega arith) c.loop-byte.invariant in
    cc (c.min-number.ensures, c.from-digit.ensures, c.saturating_mul.ensures, c.saturating_add.ensures)
