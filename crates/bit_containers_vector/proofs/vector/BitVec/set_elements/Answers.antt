use Rattle.std.proofs.Common.{◌≡◌, ◌+◌, ◌<◌, length, replicate, ap, sym, ◌∙◌}
use Rattle.std.proofs.Common.{arith}
use Rattle.bit_addressing_memory.specs.Memory.{read_by}
use Rattle.bit_containers_vector.specs.Count.{words_for}
use Rattle.std.proofs.lemmas.List.{length-replicate, length-take-le}
use Rattle.bit_containers_vector.proofs.CountLemmas.{words_within}
use Rattle.bit_containers_vector.proofs.FillLemmas.{words_filled}
use Rattle.bit_containers_vector.proofs.vector.BitVec.set_elements.Goals as goal

pub returns : goal.returns
returns g c =
    let v = c.args.self.now in
    let cut = c.trim.ensures in
    let some : 0 < g.T.BitRegister.BITS = omega (arith, g.met.T.BitRegister.least_bits) in
    let size : length c.trim.new.self.words.items ≡ words_for g.T.BitRegister.BITS (v.head + v.len) =
    ap length cut.words ∙ length-take-le (words_for g.T.BitRegister.BITS (v.head + v.len)) v.words.items
    (words_within g.T.BitRegister.BITS (v.head + v.len) (length v.words.items) some v.fits) in
    let set = c.set_words.ensures.items in
    let now : length c.set_words.new.words.items ≡ length c.trim.new.self.words.items =
    ap length set ∙ length-replicate (length c.trim.new.self.words.items) c.args.word in
    words_filled (read_by g.T.BitRegister g.O.Positions.position) v _ some v.fits cut.head cut.len
    (c.set_words.ensures.capacity ∙ cut.capacity) (now ∙ size) c.args.word
    (set ∙ ap (λ k. replicate k c.args.word) (sym now))
