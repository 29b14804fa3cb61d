use Rattle.std.proofs.Common.{◌+◌, ◌<◌, ◌≤◌}
use Rattle.std.proofs.Common.{arith, refl}
use Rattle.bit_addressing_memory.specs.Memory.{entry, piece, read_by}
use Rattle.bit_addressing_memory.proofs.MemoryLemmas.{length-piece}
use Rattle.bit_containers_vector.specs.Vector.{vec_bits}
use Rattle.bit_containers_vector.proofs.WordLemmas.{extends, length-bits, lengthened_bit}
use Rattle.bit_containers_vector.proofs.ZeroLemmas.{zero_digit}
use Rattle.bit_containers_vector.proofs.vector.BitVec.repeat_part.Goals as goal

pub shift-requires-clause-source_within : goal.shift-requires-clause-source_within
shift-requires-clause-source_within g c =
    let v = c.args.self.now in
    let mid = c.lengthen.new.self in
    let longer = (c.in_ok-lengthen.ensures).ok in
    let size = length-bits (read_by g.T.BitRegister g.O.Positions.position) v v.fits in
    omega (arith, mid.fits, longer.head, longer.len, size, c.requires.within)

pub returns-clause-ok : goal.returns-clause-ok
returns-clause-ok g c =
    let reading = read_by g.T.BitRegister g.O.Positions.position in
    let v = c.args.self.now in
    let mid = c.lengthen.new.self in
    let some : 0 < g.T.BitRegister.BITS = omega (arith, g.met.T.BitRegister.least_bits) in
    let longer = (c.in_ok-lengthen.ensures).ok in
    let size = length-bits reading v v.fits in
    let within : c.args.from + c.args.len ≤ v.len = omega (arith, size, c.requires.within) in
    extends reading g.T.BitRegister.ZERO v mid _ c.shift.new.words.items c.args.len
    (λ k. entry reading mid.words.items (mid.head + c.args.from + k)) (piece (vec_bits reading v) c.args.from c.args.len)
    some (zero_digit g.T.BitRegister.number g.O.Positions.position g.T.BitRegister.ZERO g.met.T.BitRegister.zero_is)
    v.fits longer (length-piece (vec_bits reading v) c.args.from c.args.len c.requires.within)
    (λ k low. rw longer.head (lengthened_bit reading g.T.BitRegister.ZERO v mid c.args.len c.args.from c.args.len k some v.fits longer
    within low)) c.shift.ensures.moved refl refl refl
