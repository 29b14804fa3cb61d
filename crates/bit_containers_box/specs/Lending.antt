-- A box of bits, or an iterator over one, after its words were lent to be written: `HasWords`.
use Rattle.std.proofs.Common.{◌≡◌, ◌+◌, ◌<◌, ◌≤◌, ◌∙◌, List, length, ap}
use Rattle.std.specs.Coded.{le_prop}
use Rattle.std.specs.Vec.{with_items_from}
use Rattle.bit_addressing_memory.specs.Memory.{Reading, memory, piece}
use Rattle.bit_containers_vector.specs.Lending.{as_many}
use Rattle.bit_containers_box.specs.Box.{box_bits, box_head, box_rest, box_visible}
use Rattle.bit_containers_box.specs.declared.boxed.BitBox.{BitBox}
use Rattle.bit_containers_box.specs.declared.iter.IntoIter.{IntoIter}

-- b with these in place of its first words
abbrev pub with_words : {T O : Type 0} {g : _} → BitBox T O g → List T → BitBox T O g
with_words b ws = record b { words = with_items_from b.words 0 ws; fits = rw (← as_many b.words ws) b.fits }

-- a box of which the facts are shown in another way is the same
pub same_facts : {T O : Type 0} {g : _} (b : BitBox T O g) (inside : b.head < _) (short : b.len ≤ _)
    (fits : b.head + b.len ≤ _) → record b { inside = inside; short = short; fits = fits } ≡ b
same_facts b inside short fits =
    ap (λ p. record b { inside = p; short = short; fits = fits }) (le_prop inside b.inside)
    ∙ ap (λ p. record b { short = p; fits = fits }) (le_prop short b.short)
    ∙ ap (λ p. record b { fits = p }) (le_prop fits b.fits)

-- new is old with these in place of its visible words: as many bits, from the same head on, and the same words behind
pub record HasWords {T O : Type 0} {g : _} (reading : Reading T) (old : BitBox T O g) (ws : List T) (new : BitBox T O g)
    : Type 0 where
  pub words : box_visible reading new ≡ ws
  pub bits : box_bits reading new ≡ piece (memory reading ws) (box_head old) (length (box_bits reading old))
  pub head : box_head new ≡ box_head old
  pub rest : box_rest reading new ≡ box_rest reading old

-- an iterator with these in place of its first words
abbrev pub left_with : {T O : Type 0} {g : _} → IntoIter T O g → List T → IntoIter T O g
left_with iter ws =
    record iter { words = with_items_from iter.words 0 ws; fits = rw (← as_many iter.words ws) iter.fits }

-- an iterator of which the facts are shown in another way is the same
pub same_left : {T O : Type 0} {g : _} (iter : IntoIter T O g) (short : iter.len ≤ _)
    (small : iter.place + iter.len < _) (fits : iter.place + iter.len ≤ _) → record iter { short = short; small = small; fits = fits } ≡ iter
same_left iter short small fits =
    ap (λ p. record iter { short = p; small = small; fits = fits }) (le_prop short iter.short)
    ∙ ap (λ p. record iter { small = p; fits = fits }) (le_prop small iter.small)
    ∙ ap (λ p. record iter { fits = p }) (le_prop fits iter.fits)
