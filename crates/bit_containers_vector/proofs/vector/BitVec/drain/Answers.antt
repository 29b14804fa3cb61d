use Rattle.std.proofs.Common.{◌%◌, length, ap, refl, rules}
use Rattle.bit_addressing_memory.specs.Memory.{read_by}
use Rattle.bit_containers_vector.specs.Drained.{Cut}
use Rattle.bit_containers_vector.specs.Vector.{vec_bits}
use Rattle.bit_containers_vector.proofs.DrainLemmas.{gone_place}
use Rattle.bit_containers_vector.proofs.vector.BitVec.drain.Goals as goal

-- what the range cut off, and where it is shown
pub returns : goal.returns
returns g c =
    let reading = read_by g.T.BitRegister g.O.Positions.position in
    let v = c.args.self.now in
    let from = g.I.BitRange.start c.args.range in
    let upto = g.I.BitRange.end c.args.range (length (vec_bits reading v)) in
    let cut : Cut reading from upto v c.cut.new.self = search rules in
    let place = gone_place reading from upto v c.cut.new.self c.requires.ordered c.requires.within
    c.cut.new.self.fits cut in (
      (refl, λ _. tt, cut.cut),
      record {
        bits = search rules;
        head = ap (λ p. p % g.T.BitRegister.BITS) place;
        place = place;
        after = tt;
      },
    )
