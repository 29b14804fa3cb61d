-- Boxes of bits made of a vector's visible words.
--
-- What is visible: `shown_is`, `first_bits`, `box_fits`, `box_shows`. A box of a vector: `visible_fits`, `boxed_whole`; of
-- a vector of which all words are visible: `boxed_words`. A copy: `alone_as`.
use Rattle.std.proofs.Common.{◌≡◌, ℕ, ◌+◌, ◌*◌, ◌<◌, ◌≤◌, Bool, List, length, take, arith, ap, ap₂, ◌∙◌}
use Rattle.std.proofs.Common.{inl, inr, Result, IfOk}
use Rattle.std.proofs.lemmas.Bool.{cases_lt}
use Rattle.std.proofs.lemmas.List.{drop_all, length-take-le, take_all}
use Rattle.std.proofs.Math.Nat.{mul-le-mul_right}
use Rattle.bit_addressing_memory.specs.Memory.{Reading, memory, piece}
use Rattle.bit_addressing_memory.proofs.MemoryLemmas.{length-memory}
use Rattle.bit_addressing_memory.proofs.WindowLemmas.{length-window}
use Rattle.bit_containers_vector.specs.Count.{words_for}
use Rattle.bit_containers_vector.specs.Vector.{vec_bits, vec_head, vec_words, visible}
use Rattle.bit_containers_vector.specs.declared.vector.BitVec.{BitVec}
use Rattle.bit_containers_vector.proofs.CountLemmas.{words_hold, words_within}
use Rattle.bit_containers_vector.proofs.GrownLemmas.{piece_taken}
use Rattle.bit_containers_vector.proofs.VectorLemmas.{length-visible, visible_piece}
use Rattle.bit_containers_vector.proofs.WordLemmas.{length-bits}
use Rattle.bit_containers_box.specs.Box.{box_bits, box_shown, box_visible, IsBoxed}
use Rattle.bit_containers_box.specs.Fill.{HoldsAlone}
use Rattle.bit_containers_box.specs.declared.boxed.BitBox.{BitBox}

-- how many words of a box are visible
pub shown_is : {T O : Type 0} {g : _} (reading : Reading T) (b : BitBox T O g)
    → b.head + b.len ≤ length b.words.items * reading.bits
    → box_shown reading b ≡ words_for reading.bits (b.head + b.len)
shown_is reading b fits =
    ap (λ n. words_for reading.bits (b.head + n)) (length-window reading b.words.items b.head b.len fits)

-- its bits lie in them
pub first_bits : {T O : Type 0} {g : _} (reading : Reading T) (b : BitBox T O g) → 0 < reading.bits
    → b.head + b.len ≤ length b.words.items * reading.bits
    → piece (memory reading (take (words_for reading.bits (b.head + b.len)) b.words.items)) b.head b.len
    ≡ box_bits reading b
first_bits reading b some fits =
    piece_taken reading b.words.items (words_for reading.bits (b.head + b.len)) b.head b.len
    (words_within reading.bits (b.head + b.len) (length b.words.items) some fits)
    (words_hold reading.bits (b.head + b.len) some)

-- the visible words are so long
pub box_fits : {T O : Type 0} {g : _} (reading : Reading T) (b : BitBox T O g) → 0 < reading.bits
    → b.head + b.len ≤ length b.words.items * reading.bits
    → b.head + b.len ≤ length (box_visible reading b) * reading.bits
box_fits reading b some fits =
    let w : ℕ = words_for reading.bits (b.head + b.len) in
    let size : length (box_visible reading b) ≡ w =
    ap (λ k. length (take k b.words.items)) (shown_is reading b fits)
    ∙ length-take-le w b.words.items (words_within reading.bits (b.head + b.len) (length b.words.items) some fits) in
    let product : length (box_visible reading b) * reading.bits ≡ w * reading.bits = ap (λ k. k * reading.bits) size in
    omega (arith, product, words_hold reading.bits (b.head + b.len) some)

-- and show the bits
pub box_shows : {T O : Type 0} {g : _} (reading : Reading T) (b : BitBox T O g) → 0 < reading.bits
    → b.head + b.len ≤ length b.words.items * reading.bits
    → piece (memory reading (box_visible reading b)) b.head b.len ≡ box_bits reading b
box_shows reading b some fits =
    ap (λ k. piece (memory reading (take k b.words.items)) b.head b.len) (shown_is reading b fits)
    ∙ first_bits reading b some fits

module _ {T O : Type 0} {g : _} (reading : Reading T) (v : BitVec T O g) (some : 0 < reading.bits)
    (fits : v.head + v.len ≤ length v.words.items * reading.bits) where
  -- the bits of a vector lie in its visible words
  pub visible_fits : v.head + length (vec_bits reading v) ≤ length (visible reading v) * reading.bits
  visible_fits =
      let product : length (visible reading v) * reading.bits ≡ words_for reading.bits (v.head + v.len) * reading.bits =
      ap (λ k. k * reading.bits) (length-visible reading v some fits) in
      omega (arith, length-bits reading v fits, product, words_hold reading.bits (v.head + v.len) some)

  -- a box of the vector's bits in its visible words
  pub boxed_whole : (b : BitBox T O g) → b.words.items ≡ visible reading v → b.head ≡ v.head
      → b.len ≡ length (vec_bits reading v)
      → IsBoxed reading (vec_bits reading v) (vec_head v) (visible reading v) b
  boxed_whole b words head len =
      let held : length (vec_bits reading v) ≡ v.len = length-bits reading v fits in
      let same : box_bits reading b ≡ vec_bits reading v =
      ap₂ (λ ws p. piece (memory reading ws) p b.len) words head
      ∙ ap (piece (memory reading (visible reading v)) v.head) len
      ∙ visible_piece reading v some fits v.head (length (vec_bits reading v)) visible_fits
      ∙ ap (piece (memory reading v.words.items) v.head) held in
      let shown : box_shown reading b ≡ words_for reading.bits (v.head + v.len) =
      ap₂ (λ p n. words_for reading.bits (p + n)) head (ap length same ∙ held) in
      let size : length b.words.items ≡ words_for reading.bits (v.head + v.len) =
      ap length words ∙ length-visible reading v some fits in
      record {
        bits = same;
        head = head;
        words = words;
        rest = drop_all (box_shown reading b) b.words.items (omega (arith, shown, size));
      }

-- so many bits as some words have take these words
pub whole_words : (b words : ℕ) → 0 < b → words ≤ words_for b (0 + words * b)
whole_words b words some =
    let hold = words_hold b (0 + words * b) some in
    elim (cases_lt (words_for b (0 + words * b)) words) [
      | inl fewer ↦
          let product : (words_for b (0 + words * b) + 1) * b ≤ words * b = mul-le-mul_right b (omega arith) in
          absurd (omega arith)
      | inr enough ↦ enough
    ]

-- a box of all bits of some words
pub boxed_words : {T O : Type 0} {g : _} (reading : Reading T) (v : BitVec T O g) (ws : List T) (b : BitBox T O g)
    → 0 < reading.bits → vec_bits reading v ≡ memory reading ws → vec_head v ≡ 0 → vec_words v ≡ ws
    → IsBoxed reading (vec_bits reading v) (vec_head v) (visible reading v) b
    → IsBoxed reading (memory reading ws) 0 ws b
boxed_words reading v ws b some bits head words is =
    let size : length (vec_bits reading v) ≡ length ws * reading.bits = ap length bits ∙ length-memory reading ws in
    let all : visible reading v ≡ ws =
    ap₂ (λ k xs. take (words_for reading.bits k) xs) (ap₂ (λ p n. p + n) head size) words
    ∙ take_all (words_for reading.bits (0 + length ws * reading.bits)) ws (whole_words reading.bits (length ws) some) in
    record { bits = is.bits ∙ bits; head = is.head ∙ head; words = is.words ∙ all; rest = is.rest }

-- a copy of another window with the same bits from the same head on
pub alone_as : {T O E : Type 0} {g : _} (reading : Reading T) (r : Result (BitBox T O g) E) (at h : ℕ)
    (xs ys : List Bool) → at ≡ h → xs ≡ ys → IfOk r (λ made. HoldsAlone reading made at xs)
    → IfOk r (λ made. HoldsAlone reading made h ys)
alone_as reading r at h xs ys head bits is = rw (← head, ← bits) is
