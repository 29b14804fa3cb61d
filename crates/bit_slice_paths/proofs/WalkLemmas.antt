-- Stretches combined, copied and compared chunk by chunk.
use Rattle.bit_addressing_memory.proofs.Common.{◌≡◌, ℕ, ◌+◌, ◌-◌, ◌^◌, ◌<◌, ◌≤◌, ◌↔◌, Bool, List, refl, sym, ap, ap₂}
use Rattle.bit_addressing_memory.proofs.Common.{◌∙◌, inl, inr, arith, cases_lt, Reading, entry, Overwrites, Copies}
use Rattle.bit_addressing_memory.specs.OrderLaws.{lsb0_lawful, msb0_lawful}
use Rattle.bit_addressing_memory.proofs.OrderCallerLemmas.{same_word}
use Rattle.bit_addressing_memory.proofs.PartsLemmas.{stores_as}
use Rattle.bit_addressing_memory.specs.declared.direction.Direction.{Direction}
use Rattle.bit_addressing_memory.specs.declared.direction.Direction.TheVariants.{Ascending, Descending}
use Rattle.bit_addressing_memory.proofs.OverwriteLemmas.{overwrites_join}
use Rattle.bit_slice_chunks.specs.Chunk.{chunk_bit, IsChunk}
use Rattle.bit_slice_chunks.specs.Combined.{Combines}
use Rattle.bit_slice_paths.specs.Agrees.{AreSame}

-- ---- one chunk

-- bits combined with a chunk of another memory
pub combines_chunk : {R Q : Type 0} (reading : Reading R) (its : Reading Q) (before after : List R) (others : List Q)
    (place n other_place : ℕ) (how : Bool → Bool → Bool) (direction : Direction) (other : ℕ)
    → IsChunk its others other_place n direction other
    → Overwrites reading before after place n
    (λ k. how (entry reading before (place + k)) (chunk_bit direction other k))
    → Combines reading before after place n how its others other_place
combines_chunk reading its before after others place n other_place how direction other theirs wrote =
    stores_as reading before after place n
    (λ k. how (entry reading before (place + k)) (chunk_bit direction other k))
    (λ k. how (entry reading before (place + k)) (entry its others (other_place + k))) wrote
    (λ i low. ap (how (entry reading before (place + i))) (theirs.inside i low))

-- ---- chunk after chunk

pub combines_more : {R Q : Type 0} (reading : Reading R) (its : Reading Q) (before mid after : List R)
    (others : List Q) (place other_place n m all : ℕ) (how : Bool → Bool → Bool) → all ≡ n + m
    → Combines reading before mid place n how its others other_place
    → Combines reading mid after (place + n) m how its others (other_place + n)
    → Combines reading before after place all how its others other_place
combines_more reading its before mid after others place other_place n m all how sum had more =
    overwrites_join reading before mid after place n (place + n) m all
    (λ k. how (entry reading before (place + k)) (entry its others (other_place + k)))
    (λ k. how (entry reading mid (place + n + k)) (entry its others (other_place + n + k))) refl sum
    (λ i low.
    let here : place + n + i ≡ place + (n + i) = omega arith in
    let there : other_place + n + i ≡ other_place + (n + i) = omega arith in
    ap₂ how (had.above (place + n + i) (omega arith) ∙ ap (entry reading before) here)
    (ap (entry its others) there))
    had more

-- ---- copies

-- a chunk of one memory written into another
pub copies_chunk : {R Q : Type 0} (reading : Reading R) (its : Reading Q) (before after : List R) (others : List Q)
    (place n other_place : ℕ) (direction : Direction) (other : ℕ)
    → IsChunk its others other_place n direction other
    → Overwrites reading before after place n (chunk_bit direction other)
    → Copies reading before after its others other_place place n
copies_chunk reading its before after others place n other_place direction other theirs wrote =
    stores_as reading before after place n (chunk_bit direction other)
    (λ k. entry its others (other_place + k)) wrote (λ i low. theirs.inside i low)

-- one more, of a memory whose bits there are still as they were
pub copied_more : {R Q : Type 0} (reading : Reading R) (its : Reading Q) (before mid after : List R)
    (others others_mid : List Q) (place other_place n m all : ℕ) → all ≡ n + m
    → ((p : ℕ) → other_place + n ≤ p → entry its others_mid p ≡ entry its others p)
    → Copies reading before mid its others other_place place n
    → Copies reading mid after its others_mid (other_place + n) (place + n) m
    → Copies reading before after its others other_place place all
copied_more reading its before mid after others others_mid place other_place n m all sum still had more =
    overwrites_join reading before mid after place n (place + n) m all
    (λ k. entry its others (other_place + k)) (λ k. entry its others_mid (other_place + n + k)) refl sum
    (λ i low.
    let there : other_place + n + i ≡ other_place + (n + i) = omega arith in
    still (other_place + n + i) (omega arith) ∙ ap (entry its others) there)
    had more

-- one more in front of those that are copied
pub copied_before : {R : Type 0} (reading : Reading R) (before mid after : List R)
    (source target k m len : ℕ) → source ≤ target → k + m ≤ len
    → Copies reading before mid reading before (source + (k + m)) (target + (k + m)) (len - (k + m))
    → Copies reading mid after reading mid (source + k) (target + k) m
    → Copies reading before after reading before (source + k) (target + k) (len - k)
copied_before reading before mid after source target k m len order inside had more = record {
  there = λ i low. elim (cases_lt i m) [
    | inl first ↦ more.there i first ∙ had.below (source + k + i) (omega arith)
    | inr later ↦
        let to : target + (k + m) + (i - m) ≡ target + k + i = omega arith in
        let from : source + (k + m) + (i - m) ≡ source + k + i = omega arith in
        more.above (target + k + i) (omega arith)
        ∙ ap (entry reading mid) (sym to)
        ∙ had.there (i - m) (omega arith)
        ∙ ap (entry reading before) from
  ];
  below = λ p low. more.below p low ∙ had.below p (omega arith);
  above = λ p high. more.above p (omega arith) ∙ had.above p (omega arith);
  words = more.words ∙ had.words;
}

-- ---- equality

-- two numbers with the same 64 bits are equal
same_chunks : (direction : Direction) (x y : ℕ) → x < 2 ^ 64 → y < 2 ^ 64
    → ((i : ℕ) → i < 64 → chunk_bit direction x i ≡ chunk_bit direction y i) → x ≡ y
same_chunks Ascending x y low_x low_y same = same_word 64 (λ i. i) _ _ x y (lsb0_lawful 64) low_x low_y same
same_chunks Descending x y low_x low_y same = same_word 64 (λ i. 64 - 1 - i) _ _ x y (msb0_lawful 64) low_x low_y same

-- chunks of two memories are equal exactly if the memories' bits are
pub chunks_equal : {R Q : Type 0} (reading : Reading R) (its : Reading Q) (words : List R) (others : List Q)
    (place other_place n : ℕ) (direction : Direction) (x y : ℕ) → x < 2 ^ 64 → y < 2 ^ 64
    → IsChunk reading words place n direction x → IsChunk its others other_place n direction y
    → (x ≡ y) ↔ AreSame reading words place its others other_place n
chunks_equal reading its words others place other_place n direction x y low_x low_y mine theirs = (
  λ equal k low. sym (mine.inside k low) ∙ ap (λ c. chunk_bit direction c k) equal ∙ theirs.inside k low,
  λ same. same_chunks direction x y low_x low_y (λ i small. elim (cases_lt i n) [
    | inl low ↦ mine.inside i low ∙ same i low ∙ sym (theirs.inside i low)
    | inr past ↦ mine.past i past small ∙ sym (theirs.past i past small)
  ]),
)

-- one more chunk that is equal
pub equal_more : {R Q : Type 0} (reading : Reading R) (its : Reading Q) (words : List R) (others : List Q)
    (place other_place n m all : ℕ) → all ≡ n + m
    → AreSame reading words place its others other_place n
    → AreSame reading words (place + n) its others (other_place + n) m
    → AreSame reading words place its others other_place all
equal_more reading its words others place other_place n m all sum had more k low = elim (cases_lt k n) [
  | inl first ↦ had k first
  | inr later ↦
      let here : place + n + (k - n) ≡ place + k = omega arith in
      let there : other_place + n + (k - n) ≡ other_place + k = omega arith in
      ap (entry reading words) (sym here) ∙ more (k - n) (omega arith) ∙ ap (entry its others) there
]
