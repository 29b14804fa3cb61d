use Rattle.std.proofs.Common.{◌+◌, length, take, arith, sym, ap, ap₂, ◌∙◌}
use Rattle.bit_addressing_memory.specs.Memory.{read_by}
use Rattle.bit_containers_vector.specs.Count.{words_for}
use Rattle.bit_containers_vector.proofs.CountLemmas.{words_within}
use Rattle.bit_containers_vector.proofs.WordLemmas.{length-bits}
use Rattle.bit_containers_vector.proofs.vector.BitVec.as_raw_slice.Goals as goal

pub words_upto-requires : goal.words_upto-requires
words_upto-requires g c =
    let v = c.args.self.now in
    let within = words_within g.T.BitRegister.BITS (v.head + v.len) (length v.words.items)
    (omega (arith, g.met.T.BitRegister.least_bits)) v.fits in
    rw (c.as_slice.ensures.value, c.words_taken-count.ensures) within

pub returns : goal.returns
returns g c =
    let v = c.args.self.now in
    let size = length-bits (read_by g.T.BitRegister g.O.Positions.position) v v.fits in
    c.words_upto.ensures
    ∙ ap₂ (λ k ws. take k ws) c.words_taken-count.ensures c.as_slice.ensures.value
    ∙ ap (λ k. take (words_for g.T.BitRegister.BITS (v.head + k)) v.words.items) (sym size)
