-- Where bits of one memory stand in another, chunk by chunk.
--
-- One place: `stands_agreed`, `stands_not`; by the first bits: `shown_chunk`, `shown_same`, `shown_other`. So many of them:
-- `seeks_none`, `seeks_next`, `seeks_before`, `seeks_more`.
use Rattle.bit_addressing_memory.proofs.Common.{◌≡◌, ◌≢◌, ℕ, ◌+◌, ◌-◌, ◌^◌, ◌<◌, ◌≤◌, List, ap, ◌∙◌, inl, inr, arith}
use Rattle.bit_addressing_memory.proofs.Common.{cases_lt, Reading, entry}
use Rattle.bit_addressing_memory.specs.declared.direction.Direction.{Direction}
use Rattle.bit_slice_chunks.specs.Chunk.{chunk_bit, IsChunk, IsCut, IsLowered}
use Rattle.bit_slice_paths.specs.Agrees.{Agrees, AreSame, StandsFirst}
use Rattle.bit_slice_paths.proofs.WalkLemmas.{chunks_equal}

-- bits that are the same as far as there are any stand there
pub stands_agreed : {R Q : Type 0} (reading : Reading R) (its : Reading Q) (words : List R) (others : List Q)
    (place other_place n at : ℕ) → Agrees reading words place its others other_place n at → at ≡ n
    → AreSame reading words place its others other_place n
stands_agreed reading its words others place other_place n at agree all k low = agree.same k (omega arith)

-- and others do not
pub stands_not : {R Q : Type 0} (reading : Reading R) (its : Reading Q) (words : List R) (others : List Q)
    (place other_place n at : ℕ) → Agrees reading words place its others other_place n at → at ≢ n
    → AreSame reading words place its others other_place n → ⊥
stands_not reading its words others place other_place n at agree some stands =
    let low : at < n = omega (arith, agree.most) in
    agree.differ low (stands at low)

-- a chunk lowered and cut is a chunk of the place behind
pub shown_chunk : {R : Type 0} (reading : Reading R) (words : List R) (place from n : ℕ) (direction : Direction)
    (chunk low shown : ℕ) → from + n ≤ 64
    → ((k : ℕ) → k < from + n → chunk_bit direction chunk k ≡ entry reading words (place + k))
    → IsLowered direction chunk from low → IsCut direction low n shown
    → IsChunk reading words (place + from) n direction shown
shown_chunk reading words place from n direction chunk low shown few has lower cut = record {
  inside = λ i small.
      let here : place + (i + from) ≡ place + from + i = omega arith in
      cut.inside i small
      ∙ lower.inside i (omega arith)
      ∙ has (i + from) (omega arith)
      ∙ ap (entry reading words) here;
  past = λ i past small. cut.past i past small;
}

-- where the first bits are the same, and there are no others, they stand
pub shown_same : {R Q : Type 0} (reading : Reading R) (its : Reading Q) (words : List R) (others : List Q)
    (place other_place n m : ℕ) (direction : Direction) (x y : ℕ) → x < 2 ^ 64 → y < 2 ^ 64 → m ≤ n
    → IsChunk reading words place n direction x → IsChunk its others other_place n direction y → x ≡ y
    → AreSame reading words place its others other_place m
shown_same reading its words others place other_place n m direction x y low_x low_y all mine theirs same k low =
    (chunks_equal reading its words others place other_place n direction x y low_x low_y mine theirs).0 same k (omega arith)

-- where the first bits are others, they do not stand
pub shown_other : {R Q : Type 0} (reading : Reading R) (its : Reading Q) (words : List R) (others : List Q)
    (place other_place n m : ℕ) (direction : Direction) (x y : ℕ) → x < 2 ^ 64 → y < 2 ^ 64 → n ≤ m
    → IsChunk reading words place n direction x → IsChunk its others other_place n direction y → x ≢ y
    → AreSame reading words place its others other_place m → ⊥
shown_other reading its words others place other_place n m direction x y low_x low_y part mine theirs other stands =
    other ((chunks_equal reading its words others place other_place n direction x y low_x low_y mine theirs).1
    (λ k low. stands k (omega arith)))

-- at none of them
pub seeks_none : {R Q : Type 0} (reading : Reading R) (its : Reading Q) (words : List R) (others : List Q)
    (place other_place n starts done : ℕ) → starts ≤ done
    → ((k : ℕ) → k < done → AreSame reading words (place + k) its others other_place n → ⊥)
    → StandsFirst reading words place its others other_place n starts starts
seeks_none reading its words others place other_place n starts done all before = record {
  most = omega arith;
  here = λ low. absurd (omega arith);
  before = λ k low. before k (omega arith);
}

-- at none of the places so far, nor at the next one
pub seeks_next : {R Q : Type 0} (reading : Reading R) (its : Reading Q) (words : List R) (others : List Q)
    (place other_place n i : ℕ)
    → ((k : ℕ) → k < i → AreSame reading words (place + k) its others other_place n → ⊥)
    → (AreSame reading words (place + i) its others other_place n → ⊥)
    → (k : ℕ) → k < i + 1 → AreSame reading words (place + k) its others other_place n → ⊥
seeks_next reading its words others place other_place n i had next k low stands = elim (cases_lt k i) [
  | inl early ↦ had k early stands
  | inr later ↦
      let here : k ≡ i = omega arith in
      next (rw here at stands)
]

-- at none of the places so far, nor of those behind them before place `at`
pub seeks_before : {R Q : Type 0} (reading : Reading R) (its : Reading Q) (words : List R) (others : List Q)
    (place other_place n done near at all : ℕ) → all ≤ done + at
    → ((k : ℕ) → k < done → AreSame reading words (place + k) its others other_place n → ⊥)
    → StandsFirst reading words (place + done) its others other_place n near at
    → (k : ℕ) → k < all → AreSame reading words (place + k) its others other_place n → ⊥
seeks_before reading its words others place other_place n done near at all sum had more k low stands =
    elim (cases_lt k done) [
      | inl early ↦ had k early stands
      | inr later ↦
          let here : place + done + (k - done) ≡ place + k = omega arith in
          more.before (k - done) (omega arith) (rw here stands)
    ]

-- at one of those behind the places so far
pub seeks_more : {R Q : Type 0} (reading : Reading R) (its : Reading Q) (words : List R) (others : List Q)
    (place other_place n done near at starts : ℕ) → at < near → done + near ≤ starts
    → ((k : ℕ) → k < done → AreSame reading words (place + k) its others other_place n → ⊥)
    → StandsFirst reading words (place + done) its others other_place n near at
    → StandsFirst reading words place its others other_place n starts (done + at)
seeks_more reading its words others place other_place n done near at starts low within had more =
    let here : place + done + at ≡ place + (done + at) = omega arith in
    record {
      most = omega arith;
      here = λ _. rw here at (more.here low);
      before = seeks_before reading its words others place other_place n done near at (done + at) (omega arith) had more;
    }
