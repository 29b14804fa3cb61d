use Rattle.std.proofs.Common.{ap, sym, ◌∙◌, refl}
use Rattle.bit_addressing_memory.specs.Memory.{memory, piece, read_by}
use Rattle.bit_slice_views_mut.specs.FrameLaws.{shown_window}
use Rattle.bit_containers_array.proofs.owned.BitsOwned.as_mut_bitslice.Goals as goal

-- the window's list is the piece of the words that the container's list is
pub returns : goal.returns
returns g c =
    let it = c.from_place_mut.result in
    let its = c.from_place_mut.ensures in
    let reading = read_by g.Self.Store.BitRegister g.Self.Order.Positions.position in
    let words = its.words ∙ c.as_raw_mut_slice-words.ensures.value in
    let place = its.place ∙ c.first_place-place.ensures.value in
    let list =
    shown_window reading it.words.now it.head it.len it.fits
    ∙ ap (piece (memory reading it.words.now) it.head) (its.len ∙ c.len-len.ensures)
    ∙ rw (words, place) (sym (g.met.Self.BitsMut.window c.args.self.now)) in (
      (sym its.lender, λ _. refl),
      record { bits = list; words = words; place = place; lends = tt },
    )
