use Rattle.bit_addressing_memory.proofs.Common.{length, refl, ◌∙◌, read_by}
use Rattle.bit_addressing_memory.specs.OrderLaws.{lsb0_lawful}
use Rattle.bit_slice_words.proofs.CountLemmas.{trues_all, trues_orders}
use Rattle.bit_slice_words.proofs.count.ones_of_words.Goals as goal

pub returns-then-body-ge-COUNTED_BY_BLOCKS : goal.returns-then-body-ge-COUNTED_BY_BLOCKS
returns-then-body-ge-COUNTED_BY_BLOCKS g c =
    let b = g.R.BitRegister.BITS in
    let number = g.R.BitRegister.number in
    let words = c.args.body.now in
    trues_all (read_by g.R.BitRegister (λ i. i)) words (length words) c.ones_of_blocks.result refl
    (rw c.bits_of.ensures at c.ones_of_blocks.ensures)
    ∙ trues_orders b number (λ i. i) g.O.Positions.position _ _ _ _ words (lsb0_lawful b) g.met.O.BitOrder.lawful
    g.met.R.BitRegister.number_fits
