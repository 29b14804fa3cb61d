use Rattle.std.proofs.Common.{◌≡◌, ◌∷◌, [], refl, arith}
use Rattle.bit_addressing_memory.specs.Memory.{read_by}
use Rattle.bit_containers_vector.proofs.WordLemmas.{extends}
use Rattle.bit_containers_vector.proofs.ZeroLemmas.{zero_digit}
use Rattle.bit_containers_vector.proofs.vector.BitVec.push_word.Goals as goal

pub returns-clause-ok : goal.returns-clause-ok
returns-clause-ok g c =
    extends (read_by g.T.BitRegister g.O.Positions.position) g.T.BitRegister.ZERO c.args.self.now c.lengthen.new.self _
    c.put.new.words.items 1 (λ _. c.args.bit) (c.args.bit ∷ []) (omega (arith, g.met.T.BitRegister.least_bits))
    (zero_digit g.T.BitRegister.number g.O.Positions.position g.T.BitRegister.ZERO g.met.T.BitRegister.zero_is)
    c.args.self.now.fits (c.in_ok-lengthen.ensures).ok refl
    (λ k low. let first : k ≡ 0 = omega arith in rw first refl) c.put.ensures.written refl refl refl
