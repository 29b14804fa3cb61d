use Rattle.std.proofs.Common.{arith, refl}
use Rattle.bit_addressing_memory.specs.Memory.{read_by}
use Rattle.bit_containers_vector.proofs.DrainLemmas.{cut_off}
use Rattle.bit_containers_vector.proofs.WordLemmas.{length-bits}
use Rattle.bit_containers_vector.proofs.vector.BitVec.cut.Goals as goal

pub overflow_add-self : goal.overflow_add-self
overflow_add-self g c =
    let v = c.args.self.now in
    let size = length-bits (read_by g.T.BitRegister g.O.Positions.position) v v.fits in
    omega (arith, size, c.requires.ordered, c.requires.within, v.short, v.inside, g.met.T.BitRegister.most_bits)

pub overflow_sub-self : goal.overflow_sub-self
overflow_sub-self g c =
    let v = c.args.self.now in
    let size = length-bits (read_by g.T.BitRegister g.O.Positions.position) v v.fits in
    omega (arith, size, c.requires.ordered, c.requires.within)

pub turn-requires-clause-within : goal.turn-requires-clause-within
turn-requires-clause-within g c =
    let v = c.args.self.now in
    let size = length-bits (read_by g.T.BitRegister g.O.Positions.position) v v.fits in
    omega (arith, size, c.requires.ordered, c.requires.within, v.fits)

pub turn-requires-clause-ends : goal.turn-requires-clause-ends
turn-requires-clause-ends g c =
    let v = c.args.self.now in
    let size = length-bits (read_by g.T.BitRegister g.O.Positions.position) v v.fits in
    omega (arith, size, c.requires.ordered, c.requires.within, v.short, v.inside, g.met.T.BitRegister.most_bits)

pub turn-requires-clause-most : goal.turn-requires-clause-most
turn-requires-clause-most g c =
    let v = c.args.self.now in
    let size = length-bits (read_by g.T.BitRegister g.O.Positions.position) v v.fits in
    omega (arith, size, c.requires.ordered, c.requires.within)

pub overflow_sub-self-2 : goal.overflow_sub-self-2
overflow_sub-self-2 g c =
    let v = c.args.self.now in
    let size = length-bits (read_by g.T.BitRegister g.O.Positions.position) v v.fits in
    omega (arith, size, c.requires.ordered, c.requires.within)

pub returns-clause-short : goal.returns-clause-short
returns-clause-short g c =
    let v = c.args.self.now in
    let size = length-bits (read_by g.T.BitRegister g.O.Positions.position) v v.fits in
    omega (arith, size, c.requires.within, v.short)

pub returns-clause-cut : goal.returns-clause-cut
returns-clause-cut g c =
    let v = c.args.self.now in
    let reading = read_by g.T.BitRegister g.O.Positions.position in
    let size = length-bits reading v v.fits in
    cut_off reading v _ c.args.from c.args.upto (omega (arith, g.met.T.BitRegister.least_bits)) v.fits
    c.requires.ordered (omega (arith, size, c.requires.within)) refl refl c.turn.ensures.capacity c.turn.ensures.rotated
