use Rattle.std.proofs.Common.{ℕ, ◌-◌, replicate, sym}
use Rattle.std.proofs.Common.{arith, refl}
use Rattle.bit_addressing_memory.specs.Memory.{read_by}
use Rattle.std.proofs.Common.{false}
use Rattle.std.proofs.lemmas.Bool.{false≢true}
use Rattle.std.proofs.lemmas.List.{length-replicate, get_or-replicate}
use Rattle.bit_containers_vector.proofs.WordLemmas.{extends, length-bits}
use Rattle.bit_containers_vector.proofs.ZeroLemmas.{zero_digit}
use Rattle.bit_containers_vector.proofs.vector.BitVec.resize.Goals as goal

pub returns-then-len-self-clause-longer : goal.returns-then-len-self-clause-longer
returns-then-len-self-clause-longer g c = λ more.
    let v = c.args.self.now in
    let size = length-bits (read_by g.T.BitRegister g.O.Positions.position) v v.fits in
    absurd (omega (arith, more, size, c.if-len-self.true))

pub lengthen-requires : goal.lengthen-requires
lengthen-requires g c =
    let v = c.args.self.now in
    let size = length-bits (read_by g.T.BitRegister g.O.Positions.position) v v.fits in
    omega (arith, size, c.requires, c.if-len-self.false)

pub returns-in_err-lengthen-clause-succeeds : goal.returns-in_err-lengthen-clause-succeeds
returns-in_err-lengthen-clause-succeeds g c = λ room.
    let v = c.args.self.now in
    let size = length-bits (read_by g.T.BitRegister g.O.Positions.position) v v.fits in
    absurd (false≢true ((c.in_err-lengthen.ensures).succeeds (omega (arith, size, room, c.if-len-self.false))))

pub returns-clause-longer : goal.returns-clause-longer
returns-clause-longer g c = λ more.
    let v = c.args.self.now in
    let size = length-bits (read_by g.T.BitRegister g.O.Positions.position) v v.fits in
    let m : ℕ = c.args.len - v.len in
    let bits = replicate m c.args.bit in
    rw size (extends (read_by g.T.BitRegister g.O.Positions.position) g.T.BitRegister.ZERO v c.lengthen.new.self _
    c.fill.new.words.items m (λ _. c.args.bit) bits (omega (arith, g.met.T.BitRegister.least_bits))
    (zero_digit g.T.BitRegister.number g.O.Positions.position g.T.BitRegister.ZERO g.met.T.BitRegister.zero_is) v.fits
    (c.in_ok-lengthen.ensures).ok (length-replicate m c.args.bit)
    (λ k low. sym (get_or-replicate m k c.args.bit false low)) c.fill.ensures.filled refl refl refl)

pub returns-clause-shorter : goal.returns-clause-shorter
returns-clause-shorter g c = λ less.
    let v = c.args.self.now in
    let size = length-bits (read_by g.T.BitRegister g.O.Positions.position) v v.fits in
    absurd (omega (arith, less, size, c.if-len-self.false))
