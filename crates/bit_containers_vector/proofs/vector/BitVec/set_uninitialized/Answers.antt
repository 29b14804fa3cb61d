use Rattle.std.proofs.Common.{◌≡◌, ◌+◌, ◌<◌, length, ap, sym, ◌∙◌}
use Rattle.std.proofs.Common.{arith}
use Rattle.bit_addressing_memory.specs.Memory.{read_by}
use Rattle.bit_containers_vector.specs.Count.{words_for}
use Rattle.std.proofs.lemmas.List.{length-take-le}
use Rattle.bit_containers_vector.proofs.CountLemmas.{words_within}
use Rattle.bit_containers_vector.proofs.FillLemmas.{beside_filled}
use Rattle.bit_containers_vector.proofs.vector.BitVec.set_uninitialized.Goals as goal

pub returns : goal.returns
returns g c =
    let v = c.args.self.now in
    let cut = c.trim-all.ensures in
    let some : 0 < g.T.BitRegister.BITS = omega (arith, g.met.T.BitRegister.least_bits) in
    let size : length c.trim-all.new.self.words.items ≡ words_for g.T.BitRegister.BITS (v.head + v.len) =
    ap length cut.words ∙ length-take-le (words_for g.T.BitRegister.BITS (v.head + v.len)) v.words.items
    (words_within g.T.BitRegister.BITS (v.head + v.len) (length v.words.items) some v.fits) in
    beside_filled (read_by g.T.BitRegister g.O.Positions.position) v _ some v.fits cut.head cut.len
    (c.fill-2.ensures.capacity ∙ c.fill.ensures.capacity ∙ cut.capacity)
    (c.fill-2.ensures.filled.words ∙ c.fill.ensures.filled.words ∙ size) c.trim-all.new.self.words.items
    c.trim-all.result cut.words (sym cut.count) c.fill.new.words.items c.args.bit
    (rw (← cut.head) c.fill.ensures.filled) c.fill-2.ensures.filled
