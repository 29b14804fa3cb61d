use Rattle.std.proofs.Common.{◌-◌, ◌^◌, arith}
use Rattle.bit_table_layout.proofs.NumeralLemmas.{number-more}
use Rattle.bit_table_layout.proofs.numerals.number_up_to_64_bits.Goals as goal

pub loop-byte-preserved : goal.loop-byte-preserved
loop-byte-preserved c =
    let w = c.args.word.now in
    let i = c.loop-byte.byte-index in
    let more =
    number-more w (2 ^ 64 - 1) (2 ^ 64 - 1) c.loop-byte.number i c.requires (omega arith) (omega arith) c.loop-byte.invariant in
    omega arith
