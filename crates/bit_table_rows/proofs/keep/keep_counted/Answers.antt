use Rattle.std.proofs.Common.{◌*◌, sym, subst, true}
use Rattle.bit_addressing_memory.specs.Memory.{read_by}
use Rattle.bit_slice_words.specs.Stretch.{bit_found, Nowhere}
use Rattle.bit_table_rows.proofs.keep.keep_counted.Goals as goal

pub keep_zeros-requires-clause-zeros : goal.keep_zeros-requires-clause-zeros
keep_zeros-requires-clause-zeros g c =
    let reading = read_by g.T.BitRegister g.O.Positions.position in
    subst (λ ws. Nowhere (bit_found reading ws true) 0 (c.words_before-count.result * reading.bits))
    (sym c.holds_no_one.ensures.same.words) (c.holds_no_one.ensures.zeros c.if-holds_no_one.true)
