use Rattle.std.proofs.Common.{◌+◌, length, take, arith, sym, ap₂, ◌∙◌}
use Rattle.bit_addressing_memory.specs.Memory.{read_by}
use Rattle.bit_containers_vector.proofs.CountLemmas.{words_within}
use Rattle.bit_containers_box.proofs.BoxLemmas.{shown_is}
use Rattle.bit_containers_box.proofs.boxed.BitBox.as_raw_slice.Goals as goal

pub words_upto-requires : goal.words_upto-requires
words_upto-requires g c =
    let b = c.args.self.now in
    let within = words_within g.T.BitRegister.BITS (b.head + b.len) (length b.words.items)
    (omega (arith, g.met.T.BitRegister.least_bits)) b.fits in
    rw (c.as_slice.ensures.value, c.words_taken-count.ensures) within

pub returns : goal.returns
returns g c =
    let b = c.args.self.now in
    c.words_upto.ensures
    ∙ ap₂ (λ k ws. take k ws)
    (c.words_taken-count.ensures ∙ sym (shown_is (read_by g.T.BitRegister g.O.Positions.position) b b.fits))
    c.as_slice.ensures.value
