use Rattle.std.proofs.Common.{◌-◌, ◌<◌, arith, refl}
use Rattle.bit_addressing_memory.specs.Memory.{memory, read_by}
use Rattle.bit_addressing_memory.proofs.MemoryLemmas.{piece_none}
use Rattle.bit_containers_vector.proofs.DrainLemmas.{first_gone}
use Rattle.bit_containers_vector.proofs.splice.SpliceIterator.next.Goals as goal

pub returns-then-self-clause-steps : goal.returns-then-self-clause-steps
returns-then-self-clause-steps g c =
    let d = c.args.self.now in
    let reading = read_by g.T.BitRegister g.O.Positions.position in
    let some : 0 < g.T.BitRegister.BITS = omega (arith, g.met.T.BitRegister.least_bits) in (
      (refl, refl, refl, refl),
      (omega (arith, c.if-self.true), c.requires.1),
      first_gone reading d.vector.now.words.items d.front d.back _ some (omega (arith, c.if-self.true)) c.requires.1
          c.held_bit-bit.ensures,
    )

pub returns-else-self-clause-steps : goal.returns-else-self-clause-steps
returns-else-self-clause-steps g c =
    let d = c.args.self.now in
    let m = memory (read_by g.T.BitRegister g.O.Positions.position) d.vector.now.words.items in
    let none = piece_none m d.front (d.back - d.front) (omega (arith, c.if-self.false)) in
    ((refl, refl, refl, refl), c.requires, (none, none))
