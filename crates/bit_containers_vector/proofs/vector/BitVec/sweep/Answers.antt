use Rattle.std.proofs.Common.{length, ap, sym, ◌∙◌, arith}
use Rattle.bit_addressing_memory.specs.Memory.{read_by}
use Rattle.bit_containers_vector.proofs.LendLemmas.{has_words}
use Rattle.bit_containers_vector.proofs.vector.BitVec.sweep.Goals as goal

pub returns : goal.returns
returns g c =
    let v = c.args.self.now in
    let reading = read_by g.T.BitRegister g.O.Positions.position in
    let words = c.as_raw_mut_slice.ensures.words in
    let r = c.sweep_all.ensures.ran in
    let same = sym (ap length r.5) ∙ c.sweep_all.ensures.len ∙ ap length words in
    record {
      ran = (
        r.0,
        r.1,
        r.2,
        r.3 ∙ words,
        r.4,
        rw (r.5) (has_words reading v (omega (arith, g.met.T.BitRegister.least_bits)) v.fits _ same),
      );
    }
