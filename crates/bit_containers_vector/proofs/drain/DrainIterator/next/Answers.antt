use Rattle.std.proofs.Common.{◌<◌, length, arith, rules, ap, refl}
use Rattle.bit_addressing_memory.specs.Memory.{read_by}
use Rattle.bit_containers_vector.proofs.DrainLemmas.{first_left}
use Rattle.bit_containers_vector.proofs.drain.DrainIterator.next.Goals as goal

-- the bit that was read, and those behind it
pub returns-clause-steps : goal.returns-clause-steps
returns-clause-steps g c =
    let d = c.args.self.now in
    let some : 0 < g.T.BitRegister.BITS = omega (arith, g.met.T.BitRegister.least_bits) in (
      first_left (read_by g.T.BitRegister g.O.Positions.position) d.words.now d.place d.len c.read_entry-first.result some
          (omega (arith, c.if-self-eq0.false)) d.fits c.read_entry-first.ensures.value,
      refl,
      refl,
    )

pub returns-clause-goes : goal.returns-clause-goes
returns-clause-goes g c =
    let size = ap length (returns-clause-steps g c).0 in
    search (rules, arith, size)
