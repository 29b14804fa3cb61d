use Rattle.std.proofs.Common.{◌*◌, subst, true}
use Rattle.bit_addressing_memory.specs.Memory.{read_by}
use Rattle.bit_slice_words.specs.Stretch.{bit_found, Nowhere}
use Rattle.bit_table_rows.proofs.windows.holds_no_one_in.Goals as goal

pub returns-clause-zeros : goal.returns-clause-zeros
returns-clause-zeros g c all =
    let reading = read_by g.R.BitRegister g.O.Positions.position in
    subst (λ ws. Nowhere (bit_found reading ws true) 0 (c.args.count * reading.bits)) c.new-sweep.ensures.words
    (c.holds_no_one.ensures.zeros all)
