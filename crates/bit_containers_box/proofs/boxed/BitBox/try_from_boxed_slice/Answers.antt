use Rattle.std.proofs.Common.{arith, ap, ◌∙◌}
use Rattle.std.specs.Box.{boxed_slice_items}
use Rattle.bit_addressing_memory.specs.Memory.{memory, read_by}
use Rattle.bit_containers_box.proofs.BoxLemmas.{boxed_words}
use Rattle.bit_containers_box.proofs.boxed.BitBox.try_from_boxed_slice.Goals as goal

pub returns-in-Ok-clause-ok : goal.returns-in-Ok-clause-ok
returns-in-Ok-clause-ok g c =
    let reading = read_by g.T.BitRegister g.O.Positions.position in
    let made = c.in-Ok.ensures in
    let value = c.into_vec.ensures.items in
    boxed_words reading c.in-Ok.made (boxed_slice_items c.args.words) c.of_vector.result
    (omega (arith, g.met.T.BitRegister.least_bits)) (made.bits ∙ ap (memory reading) value) made.head
    (made.words ∙ value) c.of_vector.ensures.same
