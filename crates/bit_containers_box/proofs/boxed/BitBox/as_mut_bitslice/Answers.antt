use Rattle.std.proofs.Common.{◌≡◌, ap, sym, ◌∙◌, refl, arith}
use Rattle.bit_addressing_memory.specs.Memory.{memory, piece, read_by}
use Rattle.bit_containers_box.specs.Box.{box_visible}
use Rattle.bit_containers_box.proofs.BoxLemmas.{box_fits, box_shows}
use Rattle.bit_slice_views_mut.specs.FrameLaws.{shown_window}
use Rattle.bit_containers_box.proofs.boxed.BitBox.as_mut_bitslice.Goals as goal

pub from_place_mut-requires-clause-fits : goal.from_place_mut-requires-clause-fits
from_place_mut-requires-clause-fits g c =
    let b = c.args.self.now in
    rw (c.as_raw_mut_slice.ensures.words)
    (box_fits (read_by g.T.BitRegister g.O.Positions.position) b (omega (arith, g.met.T.BitRegister.least_bits)) b.fits)

-- the window's list is the piece of the visible words that the box's list is
pub returns : goal.returns
returns g c =
    let b = c.args.self.now in
    let it = c.from_place_mut.result in
    let reading = read_by g.T.BitRegister g.O.Positions.position in
    let words : it.words.now ≡ box_visible reading b =
    c.from_place_mut.ensures.words ∙ c.as_raw_mut_slice.ensures.words in
    let list =
    shown_window reading it.words.now it.head it.len it.fits
    ∙ ap (piece (memory reading it.words.now) it.head) c.from_place_mut.ensures.len
    ∙ ap (λ p. piece (memory reading it.words.now) p b.len) c.from_place_mut.ensures.place
    ∙ ap (λ ws. piece (memory reading ws) b.head b.len) words
    ∙ box_shows reading b (omega (arith, g.met.T.BitRegister.least_bits)) b.fits in (
      (sym c.from_place_mut.ensures.lender, λ _. refl),
      record { bits = list; words = words; place = c.from_place_mut.ensures.place; lends = tt },
    )
