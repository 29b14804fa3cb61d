use Rattle.std.proofs.Common.{◌+◌, ◌<◌, sym}
use Rattle.std.proofs.Common.{arith, refl}
use Rattle.bit_addressing_memory.specs.Memory.{entry, memory, piece, read_by}
use Rattle.bit_addressing_memory.proofs.WindowLemmas.{length-window, window_bit}
use Rattle.bit_containers_vector.proofs.WordLemmas.{extends}
use Rattle.bit_containers_vector.proofs.ZeroLemmas.{zero_digit}
use Rattle.bit_containers_vector.proofs.vector.BitVec.extend_from_words.Goals as goal

pub returns-clause-ok : goal.returns-clause-ok
returns-clause-ok g c =
    let its = read_by g.Q.BitRegister g.P.Positions.position in
    let words = c.args.words.now in
    let v = c.args.self.now in
    let some : 0 < g.Q.BitRegister.BITS = omega (arith, g.met.Q.BitRegister.least_bits) in
    extends (read_by g.T.BitRegister g.O.Positions.position) g.T.BitRegister.ZERO v c.lengthen.new.self _
    c.copy.new.words.items c.args.len (λ k. entry its words (c.args.head + k))
    (piece (memory its words) c.args.head c.args.len) (omega (arith, g.met.T.BitRegister.least_bits))
    (zero_digit g.T.BitRegister.number g.O.Positions.position g.T.BitRegister.ZERO g.met.T.BitRegister.zero_is) v.fits
    (c.in_ok-lengthen.ensures).ok (length-window its words c.args.head c.args.len c.requires.within)
    (λ k low. sym (window_bit its words c.args.head c.args.len k some low)) c.copy.ensures.copied refl refl refl
