use Rattle.std.proofs.Common.{◌+◌, length, take, ap, sym, ◌∙◌, refl}
use Rattle.std.proofs.Common.{arith}
use Rattle.bit_addressing_memory.specs.Memory.{read_by}
use Rattle.bit_containers_vector.specs.Count.{words_for}
use Rattle.bit_containers_vector.specs.Lending.{same_facts, with_words}
use Rattle.bit_containers_vector.proofs.CountLemmas.{words_within}
use Rattle.bit_containers_vector.proofs.WordLemmas.{length-bits}
use Rattle.bit_containers_vector.proofs.vector.BitVec.as_raw_mut_slice.Goals as goal

pub slice_mut-requires-clause-in_bounds : goal.slice_mut-requires-clause-in_bounds
slice_mut-requires-clause-in_bounds g c =
    let v = c.args.self.now in
    let within = words_within g.T.BitRegister.BITS (v.head + v.len) (length v.words.items)
    (omega (arith, g.met.T.BitRegister.least_bits)) v.fits in
    omega (arith, within, v.words.ok.0, c.words_taken-count.ensures)

-- the words that are lent are the visible ones, and written they are in the vector
pub returns : goal.returns
returns g c =
    let v = c.args.self.now in
    let size = length-bits (read_by g.T.BitRegister g.O.Positions.position) v v.fits in (
      (refl, λ ws. same_facts (with_words v ws) _ _ _),
      record {
        words =
            c.slice_mut.ensures.value
            ∙ ap (λ k. take k v.words.items) (omega (arith, c.words_taken-count.ensures))
            ∙ ap (λ k. take (words_for g.T.BitRegister.BITS (v.head + k)) v.words.items) (sym size);
        lends = tt;
      },
    )
