-- Chunks of a memory, word by word: read, and written.
use Rattle.bit_addressing_memory.proofs.Common.{◌≡◌, ℕ, zero, suc, ◌+◌, ◌-◌, ◌*◌, ◌/◌, ◌<◌, ◌≤◌, Bool, List, length}
use Rattle.bit_addressing_memory.proofs.Common.{get_or, min, bit_or, refl, sym, ap, ◌∙◌, inl, inr, arith, cases_lt}
use Rattle.bit_addressing_memory.proofs.Common.{Reading, entry, touched, Overwrites, IsStored}
use Rattle.std.proofs.Math.Nat.{div-mul-le_self}
use Rattle.std.proofs.lemmas.Nat.{div_below, le-div, mod_below}
use Rattle.bit_addressing_memory.proofs.EntryLemmas.{entry_read}
pub use Rattle.bit_addressing_memory.proofs.LimbLemmas.{no_digit, or_left, or_right}
pub use Rattle.bit_addressing_memory.proofs.OverwriteLemmas.{overwrites_join}
pub use Rattle.bit_addressing_memory.proofs.ShiftedWords.{less_words}
pub use Rattle.bit_addressing_memory.proofs.PlaceLemmas.{begins_before, begins_behind, ends_behind, first_word}
use Rattle.bit_addressing_memory.specs.declared.direction.Direction.{Direction}
use Rattle.bit_addressing_memory.specs.declared.direction.Direction.TheVariants.{Ascending, Descending}
use Rattle.bit_addressing_memory.specs.Straight.{straight, Goes, IsStraight}
use Rattle.bit_addressing_memory.specs.Chunk.{chunk_bit, IsChunk, IsOwn, ReadTo, IsLowered, IsRaised, IsCut, IsPart}

-- ---- the direction of an order

-- positions do not go both ways
one_way : (b : ℕ) (at : ℕ → ℕ) (direction way : Direction) → 1 < b → Goes b at direction → Goes b at way
    → direction ≡ way
one_way b at Ascending Ascending some goes other = refl
one_way b at Descending Descending some goes other = refl
one_way b at Ascending Descending some goes other = absurd (omega (arith, goes 0 (omega arith), other 0 (omega arith)))
one_way b at Descending Ascending some goes other = absurd (omega (arith, goes 0 (omega arith), other 0 (omega arith)))

pub own_goes : (b : ℕ) (at : ℕ → ℕ) (direction : Direction) → 1 < b → Goes b at direction → IsOwn b at direction
own_goes b at direction some goes = record {
  goes = λ way other. one_way b at direction way some goes other;
  other = λ none. absurd (none (straight_way direction goes));
}
  where
    straight_way : (way : Direction) → Goes b at way → IsStraight b at
    straight_way Ascending up = inl up
    straight_way Descending down = inr down

pub not_straight : (b : ℕ) (at : ℕ → ℕ) → ((way : Direction) → Goes b at way → ⊥) → IsStraight b at → ⊥
not_straight b at none goes = elim goes [ inl up ↦ none Ascending up | inr down ↦ none Descending down ]

pub own_none : (b : ℕ) (at : ℕ → ℕ) → (IsStraight b at → ⊥) → IsOwn b at Ascending
own_none b at none = record {
  goes = λ way goes. up way goes;
  other = λ _. refl;
}
  where
    up : (way : Direction) → Goes b at way → Ascending ≡ way
    up Ascending goes = refl
    up Descending goes = absurd (none (inr goes))

-- ---- where words lie

-- a word up to the last one is one of the words
pub word_in : (b bits end k words : ℕ) → bits ≡ b → 0 < b → 0 < end → k < (end - 1) / bits + 1 → end ≤ words * b
    → k < words
word_in b bits end k words is some any low within =
    let begins = begins_before b bits end k is some any low in
    less_words k words b (omega arith)

-- so is the first
pub first_in : (b bits place n words : ℕ) → bits ≡ b → 0 < b → 0 < n → place + n ≤ words * b → place / bits < words
first_in b bits place n words is some any within = rw is (div_below place b words some (omega arith))

-- the first is not behind the last
pub in_order : (bits place n : ℕ) → 0 < bits → 0 < n → place / bits ≤ (place + n - 1) / bits
in_order bits place n some any =
    le-div (place / bits) (place + n - 1) bits some (omega (arith, div-mul-le_self place bits))

-- and so many are touched, of which the last one holds the last entry
pub touched_last : (b bits place n : ℕ) → bits ≡ b → 0 < n
    → (place + n - 1) / bits + 1 - place / bits ≡ touched b place n
touched_last b bits place zero is any = absurd (omega arith)
touched_last b bits place (suc m) is any =
    let last : place + suc m - 1 ≡ place + m = omega arith in
    rw (is, last) refl

-- ---- reading

-- as much of a part of a word
pub part_upto : {R : Type 0} (reading : Reading R) (word : R) (from upto end : ℕ) (direction : Direction) (chunk : ℕ)
    → upto ≤ end → IsPart reading word from end direction chunk → IsPart reading word from upto direction chunk
part_upto reading word from upto end direction chunk within is = record {
  inside = λ i small low. is.inside i small (omega arith);
  past = is.past;
}

-- bit i of a part of word j, from the index `from` on
pub part_entry : {R : Type 0} (reading : Reading R) (direction : Direction) (words : List R) (j from upto i chunk : ℕ)
    (x : R) → IsPart reading x from upto direction chunk → j < length words → x ≡ get_or words j x → i < 64
    → from + i < upto → upto ≤ reading.bits
    → chunk_bit direction chunk i ≡ entry reading words (j * reading.bits + (from + i))
part_entry reading direction words j from upto i chunk x is within read small low fits =
    is.inside i small low ∙ entry_read reading words j (from + i) x (omega arith) within read

module _ {R : Type 0} (reading : Reading R) (direction : Direction) (words : List R) (place n : ℕ) where
  -- the first word
  pub read_first : (j from upto chunk end : ℕ) (x : R) → j * reading.bits + from ≡ place → end ≡ (j + 1) * reading.bits
      → n ≤ 64 → upto ≡ min reading.bits (from + n) → IsPart reading x from upto direction chunk → j < length words
      → x ≡ get_or words j x → ReadTo reading words place n end direction chunk
  read_first j from upto chunk end x start is_end few is_upto is within read = record {
    inside = λ i low near.
        let here : j * reading.bits + (from + i) ≡ place + i = omega arith in
        part_entry reading direction words j from upto i chunk x is within read (omega arith) (omega arith) (omega arith)
        ∙ ap (entry reading words) here;
    past = λ i small far. is.past i small (omega arith);
  }

  -- one word more
  pub read_more : (k by upto chunk next up r end : ℕ) (x : R) → place ≤ k * reading.bits → by ≡ k * reading.bits - place
      → end ≡ (k + 1) * reading.bits → n ≤ 64 → upto ≡ min reading.bits (n - by)
      → ReadTo reading words place n (k * reading.bits) direction chunk
      → IsPart reading x 0 upto direction next → IsRaised direction next by up → r ≡ bit_or chunk up
      → k < length words → x ≡ get_or words k x → ReadTo reading words place n end direction r
  read_more k by upto chunk next up r end x begins is_by is_end few is_upto had is moved put within read = rw put (record {
    inside = λ i low near. elim (cases_lt i by) [
      | inl under ↦
          or_left chunk up (straight 64 direction i) (moved.below i under) ∙ had.inside i low (omega arith)
      | inr over ↦
          let here : k * reading.bits + (0 + (i - by)) ≡ place + i = omega arith in
          or_right chunk up (straight 64 direction i) (had.past i (omega arith) (omega arith))
          ∙ moved.above i over (omega arith)
          ∙ part_entry reading direction words k 0 upto (i - by) next x is within read (omega arith) (omega arith)
          (omega arith)
          ∙ ap (entry reading words) here
    ];
    past = λ i small far.
        or_right chunk up (straight 64 direction i) (had.past i small (omega arith))
        ∙ moved.above i (omega arith) small
        ∙ is.past (i - by) (omega arith) (omega arith);
  })

-- all words, and the bits behind cut off
pub read_all : {R : Type 0} (reading : Reading R) (words : List R) (place end n : ℕ) (direction : Direction)
    (chunk r : ℕ) → place + n ≤ end → ReadTo reading words place n end direction chunk → IsCut direction chunk n r
    → IsChunk reading words place n direction r
read_all reading words place end n direction chunk r within had cut = record {
  inside = λ i low. cut.inside i low ∙ had.inside i low (omega arith);
  past = cut.past;
}

-- ---- writing

-- the same digits of a word by other names
pub stored_as : {R : Type 0} (reading : Reading R) (word result : R) (from upto : ℕ) (now then : ℕ → Bool)
    → ((i : ℕ) → from ≤ i → i < upto → i < reading.bits → now i ≡ then i)
    → IsStored reading word result from upto now → IsStored reading word result from upto then
stored_as reading word result from upto now then same is = record {
  inside = λ i high low small. is.inside i high low small ∙ same i high low small;
  below = is.below;
  above = is.above;
}

-- the first word's bits begin with the chunk's
pub lowered_none : (direction : Direction) (chunk : ℕ) → IsLowered direction chunk 0 chunk
lowered_none direction chunk = record {
  inside = λ i small.
      let same : i ≡ i + 0 = omega arith in
      ap (chunk_bit direction chunk) same;
  past = λ i small far. absurd (omega arith);
}

-- one word more
pub write_more : {R : Type 0} (reading : Reading R) (before mid after : List R)
    (place count k b start bits from upto by : ℕ) (direction : Direction) (chunk rest : ℕ)
    → bits ≡ b → start ≡ k * b → place < (k + 1) * b → k * b < place + count → count ≤ 64
    → from ≡ place - start → upto ≡ min bits (place + count - start) → by ≡ start + from - place
    → IsLowered direction chunk by rest
    → Overwrites reading before mid place (min count (k * b - place)) (chunk_bit direction chunk)
    → Overwrites reading mid after (k * b + from) (upto - from) (chunk_bit direction rest)
    → Overwrites reading before after place (min count ((k + 1) * b - place)) (chunk_bit direction chunk)
write_more reading before mid after place count k b start bits from upto by direction chunk rest is_bits is_start
    begins ends few is_from is_upto is_by moved one two =
    overwrites_join reading before mid after place (min count (k * b - place)) (k * b + from) (upto - from)
    (min count ((k + 1) * b - place)) (chunk_bit direction chunk) (chunk_bit direction rest) (omega arith) (omega arith)
    (λ i low.
    let at : i + by ≡ min count (k * b - place) + i = omega arith in
    moved.inside i (omega arith) ∙ ap (chunk_bit direction chunk) at)
    one two

pub write_none : {R : Type 0} (reading : Reading R) (words : List R) (place n : ℕ) (now : ℕ → Bool) → n ≡ 0
    → Overwrites reading words words place n now
write_none reading words place n now none = record {
  there = λ k small. absurd (omega arith);
  below = λ p low. refl;
  above = λ p high. refl;
  words = refl;
}

-- what a search needs where words are read, or written, one behind the other
pub ruleset reads_of_words = (ends_behind, read_all, touched_last, in_order)

pub ruleset writes_of_words = (mod_below, first_word, lowered_none, write_more, write_none, touched_last, in_order)

-- an order has one direction of its own
pub own_same : (b : ℕ) (at : ℕ → ℕ) (d e : Direction) → IsOwn b at d → IsOwn b at e → e ≡ d
own_same b at Ascending Ascending x y = refl
own_same b at Descending Descending x y = refl
own_same b at Ascending Descending x y = y.other (λ goes. elim goes [
  | inl up ↦ let one = y.goes Ascending up in cc
  | inr down ↦ let one = x.goes Descending down in cc
])
own_same b at Descending Ascending x y = sym (x.other (λ goes. elim goes [
  | inl up ↦ let one = x.goes Ascending up in cc
  | inr down ↦ let one = y.goes Descending down in cc
]))
