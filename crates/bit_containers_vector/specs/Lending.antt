-- A vector of bits after its words were lent to be written.
use Rattle.std.proofs.Common.{◌≡◌, ◌+◌, ◌<◌, ◌≤◌, ◌++◌, ◌∙◌, List, length, take, drop, ap, sym}
use Rattle.std.specs.Coded.{le_prop}
use Rattle.std.specs.List.{length_refill}
use Rattle.std.specs.Vec.{with_items_from}
use Rattle.std.specs.declared.vec.Vec.{Vec}
use Rattle.bit_addressing_memory.specs.Memory.{Reading, memory, piece}
use Rattle.bit_containers_vector.specs.Vector.{vec_bits, vec_head, visible, room}
use Rattle.bit_containers_vector.specs.declared.vector.BitVec.{BitVec}

-- words written over others are as many
pub as_many : {T A : Type 0} (words : Vec T A) (ws : List T)
    → length words.items ≡ length (with_items_from words 0 ws).items
as_many words ws =
    sym words.ok.0
    ∙ length_refill words.len words.items (take 0 words.items ++ (ws ++ drop (length ws) (drop 0 words.items))) words.ok.0

-- v with these in place of its first words
abbrev pub with_words : {T O : Type 0} {g : _} → BitVec T O g → List T → BitVec T O g
with_words v ws = record v { words = with_items_from v.words 0 ws; fits = rw (← as_many v.words ws) v.fits }

-- a vector of which the facts are shown in another way is the same
pub same_facts : {T O : Type 0} {g : _} (v : BitVec T O g) (inside : v.head < _) (short : v.len ≤ _)
    (fits : v.head + v.len ≤ _) → record v { inside = inside; short = short; fits = fits } ≡ v
same_facts v inside short fits =
    ap (λ p. record v { inside = p; short = short; fits = fits }) (le_prop inside v.inside)
    ∙ ap (λ p. record v { short = p; fits = fits }) (le_prop short v.short)
    ∙ ap (λ p. record v { fits = p }) (le_prop fits v.fits)

-- new is old with these in place of its visible words: as many bits, from the same head on, with the same memory
pub record HasWords {T O : Type 0} {g : _} (reading : Reading T) (old : BitVec T O g) (ws : List T)
    (new : BitVec T O g) : Type 0 where
  pub words : visible reading new ≡ ws
  pub bits : vec_bits reading new ≡ piece (memory reading ws) (vec_head old) (length (vec_bits reading old))
  pub head : vec_head new ≡ vec_head old
  pub room : room reading new ≡ room reading old
