use Rattle.std.proofs.Common.{[], ◌∷◌, arith, ap, ◌∙◌}
use Rattle.bit_addressing_memory.specs.Memory.{memory, read_by}
use Rattle.bit_containers_box.proofs.BoxLemmas.{boxed_words}
use Rattle.bit_containers_box.proofs.boxed.BitBox.from_element_box.Goals as goal

pub returns-in-Ok-clause-ok : goal.returns-in-Ok-clause-ok
returns-in-Ok-clause-ok g c =
    let reading = read_by g.T.BitRegister g.O.Positions.position in
    let made = c.in-Ok.ensures in
    let value = ap (λ w. w ∷ []) c.deref.ensures in
    boxed_words reading c.in-Ok.made (c.args.word.value ∷ []) c.of_vector.result
    (omega (arith, g.met.T.BitRegister.least_bits)) (made.bits ∙ ap (memory reading) value) made.head
    (made.words ∙ value) c.of_vector.ensures.same
