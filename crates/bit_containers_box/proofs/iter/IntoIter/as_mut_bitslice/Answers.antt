use Rattle.std.proofs.Common.{◌≡◌, length, take, ap, sym, ◌∙◌, arith}
use Rattle.std.proofs.lemmas.List.{take_all}
use Rattle.bit_addressing_memory.specs.Memory.{memory, piece, read_by}
use Rattle.bit_containers_box.specs.Left.{left_words}
use Rattle.bit_containers_box.specs.Lending.{left_with, same_left}
use Rattle.bit_slice_views_mut.specs.FrameLaws.{shown_window}
use Rattle.bit_containers_box.proofs.iter.IntoIter.as_mut_bitslice.Goals as goal

-- the window's list is the piece of the words that is left
pub returns : goal.returns
returns g c =
    let iter = c.args.self.now in
    let it = c.from_place_mut.result in
    let reading = read_by g.T.BitRegister g.O.Positions.position in
    let words : it.words.now ≡ left_words iter =
    c.from_place_mut.ensures.words
    ∙ c.slice_mut.ensures.value
    ∙ ap (λ k. take k iter.words.items) (omega (arith, iter.words.ok.0, c.len-count.ensures))
    ∙ take_all (length iter.words.items) iter.words.items (omega arith) in
    let list =
    shown_window reading it.words.now it.head it.len it.fits
    ∙ ap (piece (memory reading it.words.now) it.head) c.from_place_mut.ensures.len
    ∙ ap (λ p. piece (memory reading it.words.now) p iter.len) c.from_place_mut.ensures.place
    ∙ ap (λ ws. piece (memory reading ws) iter.place iter.len) words in (
      (sym c.from_place_mut.ensures.lender, λ ws. same_left (left_with iter ws) _ _ _),
      record { bits = list; words = words; place = c.from_place_mut.ensures.place; lends = tt },
    )
