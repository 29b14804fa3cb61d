use Rattle.std.proofs.Common.{arith, ap, ◌∙◌}
use Rattle.bit_addressing_memory.specs.Memory.{memory, read_by}
use Rattle.bit_containers_box.proofs.BoxLemmas.{boxed_words}
use Rattle.bit_containers_box.proofs.boxed.BitBox.from_array.Goals as goal

pub returns : goal.returns
returns g c =
    let reading = read_by g.T.BitRegister g.O.Positions.position in
    let made = c.in_ok-words.ensures in
    let value = c.as_raw_slice.ensures.value in
    boxed_words reading c.in_ok-words.words (g.A.BitViewSized.words c.args.array.now) c.of_vector.result
    (omega (arith, g.met.T.BitRegister.least_bits)) (made.bits ∙ ap (memory reading) value) made.head
    (made.words ∙ value) c.of_vector.ensures.same
