use Rattle.std.proofs.Common.{◌≡◌, ap, sym, ◌∙◌, refl}
use Rattle.std.proofs.Common.{arith}
use Rattle.bit_addressing_memory.specs.Memory.{memory, piece, read_by}
use Rattle.bit_containers_vector.specs.Vector.{visible}
use Rattle.bit_containers_vector.proofs.LendLemmas.{shown_bits, shown_fits}
use Rattle.bit_slice_views_mut.specs.FrameLaws.{shown_window}
use Rattle.bit_containers_vector.proofs.vector.BitVec.as_mut_bitslice.Goals as goal

pub from_place_mut-requires-clause-fits : goal.from_place_mut-requires-clause-fits
from_place_mut-requires-clause-fits g c =
    let v = c.args.self.now in
    rw (c.as_raw_mut_slice.ensures.words)
    (shown_fits (read_by g.T.BitRegister g.O.Positions.position) v (omega (arith, g.met.T.BitRegister.least_bits)) v.fits)

-- the window's list is the piece of the visible words that the vector's list is
pub returns : goal.returns
returns g c =
    let v = c.args.self.now in
    let it = c.from_place_mut.result in
    let reading = read_by g.T.BitRegister g.O.Positions.position in
    let words : it.words.now ≡ visible reading v = c.from_place_mut.ensures.words ∙ c.as_raw_mut_slice.ensures.words in
    let list =
    shown_window reading it.words.now it.head it.len it.fits
    ∙ ap (piece (memory reading it.words.now) it.head) c.from_place_mut.ensures.len
    ∙ ap (λ p. piece (memory reading it.words.now) p v.len) c.from_place_mut.ensures.place
    ∙ ap (λ ws. piece (memory reading ws) v.head v.len) words
    ∙ shown_bits reading v (omega (arith, g.met.T.BitRegister.least_bits)) v.fits in (
      (sym c.from_place_mut.ensures.lender, λ _. refl),
      record { bits = list; words = words; place = c.from_place_mut.ensures.place; lends = tt },
    )
