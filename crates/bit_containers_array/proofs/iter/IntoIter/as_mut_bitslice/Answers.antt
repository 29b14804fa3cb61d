use Rattle.std.proofs.Common.{◌≡◌, min, sym, ap, ◌∙◌, refl}
use Rattle.bit_addressing_memory.specs.Memory.{memory, piece, read_by}
use Rattle.bit_slice_views_mut.specs.FrameLaws.{shown_window}
use Rattle.bit_containers_array.proofs.LeftLemmas.{left_lent}
use Rattle.bit_containers_array.proofs.iter.IntoIter.as_mut_bitslice.Goals as goal

-- the window's list is the piece of the array's words that is left
pub returns : goal.returns
returns g c =
    let it = c.args.self.now in
    let v = c.from_place_mut.result in
    let reading = read_by g.A.Store.BitRegister g.O.Positions.position in
    let own = g.A.BitViewSized.words it.array.words in
    let start = c.min-from.result in
    let n = c.min-len.result in
    let words : v.words.now ≡ own = c.from_place_mut.ensures.words ∙ c.as_raw_mut_slice-words.ensures.value in
    let list =
    shown_window reading v.words.now v.head v.len v.fits
    ∙ ap (piece (memory reading v.words.now) v.head) c.from_place_mut.ensures.len
    ∙ ap (λ p. piece (memory reading v.words.now) p n) c.from_place_mut.ensures.place
    ∙ ap (λ ws. piece (memory reading ws) start n) words
    ∙ left_lent reading own it.from it.count c.len-all.result start n c.len-all.ensures.value c.min-from.ensures
    c.min-len.ensures in
    let place =
    c.from_place_mut.ensures.place ∙ c.min-from.ensures ∙ ap (λ m. min it.from m) c.len-all.ensures.value in
    ((sym c.from_place_mut.ensures.lender, λ _. refl), record { bits = list; words = words; place = place; lends = tt })
