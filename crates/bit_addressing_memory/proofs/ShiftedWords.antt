-- One word of a move, by shifts.
--
-- `begins_inside`, `begins_across`: a word that begins with the bits from a place on, of one word or of two. `whole_word`:
-- such a word is the word of a move. `less_words`: what is read is there. `run_part`: some words of a run.
use Rattle.bit_addressing_memory.proofs.Common.{◌≡◌, ℕ, ◌+◌, ◌-◌, ◌*◌, ◌<◌, ◌≤◌, List, length, get_or}
use Rattle.bit_addressing_memory.proofs.Common.{sym, ap, ◌∙◌, inl, inr, arith, cases_lt, Reading, entry}
use Rattle.std.proofs.Math.Nat.{mul-le-mul_right}
use Rattle.bit_addressing_memory.proofs.EntryLemmas.{entry_read}
use Rattle.bit_addressing_memory.proofs.PlaceLemmas.{word_within}
use Rattle.bit_addressing_memory.specs.Straight.{IsJoined}
use Rattle.bit_addressing_memory.specs.MoveSteps.{BeginsWith, IsGathered, IsRun}
use Rattle.bit_addressing_memory.proofs.Gathers.{moved_bit_inside}

-- fewer words where there are fewer bits
pub less_words : (x y w : ℕ) → x * w < y * w → x < y
less_words x y w less = word_within w x 0 y (omega arith)

-- some of the words of a run
pub run_part : (b source target len low high word by x y : ℕ) → low ≤ x → x ≤ y → y ≤ high
    → IsRun b source target len low high word by → IsRun b source target len x y (word + (x - low)) by
run_part b source target len low high word by x y from order upto run =
    let start = mul-le-mul_right b from in
    let end = mul-le-mul_right b upto in
    let row : (low + (x - low)) * b ≡ x * b = ap (λ n. n * b) (omega arith) in
    record {
      order = order;
      begins = omega (arith, start, run.begins);
      ends = omega (arith, end, run.ends);
      index = run.index;
      first = omega (arith, row, start, run.begins, run.first);
    }

-- bits that lie in one word
pub begins_inside : {R : Type 0} (reading : Reading R) (words : List R) (p n j q : ℕ) (first word : R)
    → j * reading.bits + q ≡ p → q + n ≤ reading.bits → j < length words → first ≡ get_or words j first
    → ((i : ℕ) → q + i < reading.bits → reading.digit word i ≡ reading.digit first (q + i))
    → BeginsWith reading words p n word
begins_inside reading words p n j q first word at most within read is i low =
    let place : j * reading.bits + (q + i) ≡ p + i = omega arith in
    is i (omega arith)
    ∙ entry_read reading words j (q + i) first (omega arith) within read
    ∙ ap (entry reading words) place

-- bits that go on in the next word
pub begins_across : {R : Type 0} (reading : Reading R) (words : List R) (p n j q : ℕ) (first next word : R)
    → j * reading.bits + q ≡ p → q < reading.bits → n ≤ reading.bits → j + 1 < length words
    → first ≡ get_or words j first → next ≡ get_or words (j + 1) next → IsJoined reading first next word q
    → BeginsWith reading words p n word
begins_across reading words p n j q first next word at index_low most within read read_next joined i low =
    elim (cases_lt (q + i) reading.bits) [
      | inl one ↦
          begins_inside reading words p (i + 1) j q first word at (omega arith) (omega arith) read joined.from_first i
          (omega arith)
      | inr other ↦
          let index : ℕ = q + i - reading.bits in
          let place : (j + 1) * reading.bits + index ≡ p + i = omega arith in
          joined.from_next i other (omega arith)
          ∙ entry_read reading words (j + 1) index next (omega arith) within read_next
          ∙ ap (entry reading words) place
    ]

-- a word of the move that has no bits but the target's
pub whole_word : {R : Type 0} (reading : Reading R) (before : List R) (k source target len at by : ℕ) (word : R)
    → IsRun reading.bits source target len k (k + 1) at by
    → BeginsWith reading before (at * reading.bits + by) reading.bits word
    → IsGathered reading before k source target len word
whole_word reading before k source target len at by word run begins i small =
    let there : at * reading.bits + by + i ≡ source + (k * reading.bits + i - target) =
    omega (arith, run.first, run.begins) in
    begins i small
    ∙ ap (entry reading before) there
    ∙ sym (moved_bit_inside reading before source target len (k * reading.bits + i) (omega (arith, run.begins))
    (omega (arith, run.ends)))
