use Rattle.std.proofs.Common.{◌+◌, length, take, ap, ◌∙◌, refl, arith}
use Rattle.bit_addressing_memory.specs.Memory.{read_by}
use Rattle.bit_containers_box.specs.Lending.{same_facts, with_words}
use Rattle.bit_containers_vector.proofs.CountLemmas.{words_within}
use Rattle.bit_containers_box.proofs.BoxLemmas.{shown_is}
use Rattle.bit_containers_box.proofs.boxed.BitBox.as_raw_mut_slice.Goals as goal

pub slice_mut-requires-clause-in_bounds : goal.slice_mut-requires-clause-in_bounds
slice_mut-requires-clause-in_bounds g c =
    let b = c.args.self.now in
    let within = words_within g.T.BitRegister.BITS (b.head + b.len) (length b.words.items)
    (omega (arith, g.met.T.BitRegister.least_bits)) b.fits in
    omega (arith, within, b.words.ok.0, c.words_taken-count.ensures)

-- the words that are lent are the visible ones, and written they are in the box
pub returns : goal.returns
returns g c =
    let b = c.args.self.now in
    let shown = shown_is (read_by g.T.BitRegister g.O.Positions.position) b b.fits in (
      (refl, λ ws. same_facts (with_words b ws) _ _ _),
      record {
        words =
            c.slice_mut.ensures.value
            ∙ ap (λ k. take k b.words.items) (omega (arith, c.words_taken-count.ensures, shown));
        lends = tt;
      },
    )
