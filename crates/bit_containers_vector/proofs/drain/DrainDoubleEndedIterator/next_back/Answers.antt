use Rattle.std.proofs.Common.{◌-◌, ◌<◌, ◌∷◌, [], length, arith, rules, ap, ◌∙◌, refl}
use Rattle.std.proofs.lemmas.List.{length-append}
use Rattle.bit_addressing_memory.specs.Memory.{memory, piece, read_by}
use Rattle.bit_containers_vector.proofs.DrainLemmas.{last_left}
use Rattle.bit_containers_vector.proofs.drain.DrainDoubleEndedIterator.next_back.Goals as goal

-- the bits before the one that was read, and that one
pub returns-clause-steps : goal.returns-clause-steps
returns-clause-steps g c =
    let d = c.args.self.now in
    let some : 0 < g.T.BitRegister.BITS = omega (arith, g.met.T.BitRegister.least_bits) in (
      last_left (read_by g.T.BitRegister g.O.Positions.position) d.words.now d.place d.len c.read_entry-last.result some
          (omega (arith, c.if-self-eq0.false)) d.fits c.read_entry-last.ensures.value,
      refl,
      refl,
    )

pub returns-clause-goes : goal.returns-clause-goes
returns-clause-goes g c =
    let d = c.args.self.now in
    let reading = read_by g.T.BitRegister g.O.Positions.position in
    let size = ap length (returns-clause-steps g c).0
    ∙ length-append (piece (memory reading d.words.now) d.place (d.len - 1)) (c.read_entry-last.result ∷ []) in
    search (rules, arith, size)
