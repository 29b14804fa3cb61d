use Rattle.std.proofs.Common.{◌≡◌, ◌*◌, ◌<◌, length, arith, ap}
use Rattle.bit_addressing_memory.specs.Memory.{read_by}
use Rattle.bit_containers_vector.specs.Vector.{visible}
use Rattle.bit_containers_box.proofs.BoxLemmas.{boxed_whole, visible_fits}
use Rattle.bit_containers_box.proofs.boxed.BitBox.of_vector.Goals as goal

pub invariant_of-result : goal.invariant_of-result
invariant_of-result g c =
    let v = c.args.vector in
    let reading = read_by g.T.BitRegister g.O.Positions.position in
    let some : 0 < g.T.BitRegister.BITS = omega (arith, g.met.T.BitRegister.least_bits) in
    let size : length c.into_vec-words.result.items * g.T.BitRegister.BITS
    ≡ length (visible reading v) * g.T.BitRegister.BITS =
    ap (λ ws. length ws * g.T.BitRegister.BITS) c.into_vec-words.ensures.items in
    record {
      inside = omega (arith, c.first_place-head.ensures.value, v.inside);
      short = omega (arith, c.len-len.ensures, c.first_place-head.ensures.short);
      fits = omega (
        arith,
        size,
        c.len-len.ensures,
        c.first_place-head.ensures.value,
        visible_fits reading v some v.fits,
      );
    }

-- the words are those that `into_vec` gave
pub returns-clause-same : goal.returns-clause-same
returns-clause-same g c =
    let v = c.args.vector in
    boxed_whole (read_by g.T.BitRegister g.O.Positions.position) v (omega (arith, g.met.T.BitRegister.least_bits))
    v.fits _ c.into_vec-words.ensures.items c.first_place-head.ensures.value
    c.len-len.ensures
