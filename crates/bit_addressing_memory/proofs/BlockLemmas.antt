-- Blocks of 64 bits, read, written and moved, word by word.
--
-- `words_of_64`, `word_of_chunk`, `word_begins`, `next_word`: how many words make a block, and where they lie. `read_whole`,
-- `read_across`: words read into a block. `scattered_more`: a block written, a word more. `moves_up`, `moves_down`: blocks
-- moved. `block_run`: which words of a move blocks put.
use Rattle.bit_addressing_memory.proofs.Common.{◌≡◌, ℕ, zero, suc, ◌+◌, ◌-◌, ◌*◌, ◌/◌, ◌^◌, ◌<◌, ◌≤◌, Bool}
use Rattle.bit_addressing_memory.proofs.Common.{List, length, get_or, set, bit_or, refl, sym, ap, ◌∙◌, inl, inr, arith}
use Rattle.bit_addressing_memory.proofs.Common.{cases_lt, cases_eq, Reading, entry, reading_in, Overwrites, IsStored}
use Rattle.std.proofs.Math.Nat.{mul-le-mul_right}
use Rattle.std.proofs.lemmas.List.{get_or_default}
use Rattle.std.proofs.lemmas.Nat.{div-add-mod', div-mul-add}
use Rattle.bit_addressing_order.specs.Bits.{digit_at}
use Rattle.bit_addressing_order.specs.BitRegister.{IsRegisterSize}
use Rattle.bit_addressing_memory.specs.Chunk.{chunk_bit, IsChunk, ReadTo, IsLowered, IsRaised, IsPart, IsPlaced}
use Rattle.bit_addressing_memory.specs.Moves.{Moves}
use Rattle.bit_addressing_memory.specs.Straight.{Goes, straight}
use Rattle.bit_addressing_memory.specs.declared.direction.Direction.{Direction}
use Rattle.bit_addressing_memory.proofs.LimbLemmas.{or_left, or_right}
use Rattle.bit_addressing_memory.proofs.OverwriteLemmas.{overwrites_join}
use Rattle.bit_addressing_memory.proofs.PartsLemmas.{stores_part}
use Rattle.bit_addressing_memory.proofs.ShiftedWords.{less_words, run_part}
use Rattle.bit_addressing_memory.proofs.TransferLemmas.{part_entry}
use Rattle.bit_addressing_memory.proofs.WayLemmas.{by_way_low}
use Rattle.bit_addressing_memory.specs.MoveSteps.{IsRun}
use Rattle.bit_addressing_memory.specs.Ways.{by_way}
use Rattle.bit_addressing_memory.specs.declared.sweep.Way.{Way}

-- words of at most 64 bits make up 64
pub words_of_64 : (b bits : ℕ) → IsRegisterSize b → b ≤ 64 → bits ≡ b → 64 / bits * b ≡ 64
words_of_64 b bits size most is = elim (cases_eq size.0 3) [
  | inl e ↦ let eight : b ≡ 8 = size.3 ∙ ap (λ k. 2 ^ k) e in rw (is, eight) refl
  | inr a ↦ elim (cases_eq size.0 4) [
    | inl e ↦ let eight : b ≡ 16 = size.3 ∙ ap (λ k. 2 ^ k) e in rw (is, eight) refl
    | inr c ↦ elim (cases_eq size.0 5) [
      | inl e ↦ let eight : b ≡ 32 = size.3 ∙ ap (λ k. 2 ^ k) e in rw (is, eight) refl
      | inr d ↦ elim (cases_eq size.0 6) [
        | inl e ↦ let eight : b ≡ 64 = size.3 ∙ ap (λ k. 2 ^ k) e in rw (is, eight) refl
        | inr f ↦
            let seven : size.0 ≡ 7 = omega (arith, size.1, size.2) in
            let wide : b ≡ 128 = size.3 ∙ ap (λ k. 2 ^ k) seven in
            absurd (omega arith)
      ]
    ]
  ]
]

-- each of these words is one of the memory's
pub word_of_chunk : (b bits first k words : ℕ) → IsRegisterSize b → b ≤ 64 → bits ≡ b → 0 < b → k < 64 / bits
    → first * b + 64 ≤ words * b → first + k < words
word_of_chunk b bits first k words size most is some low within =
    let row : (k + 1) * b ≤ 64 / bits * b = mul-le-mul_right b (omega arith) in
    less_words (first + k) words b (omega (arith, words_of_64 b bits size most is))

-- and the bits of each begin in the chunk
pub word_begins : (b bits k : ℕ) → IsRegisterSize b → b ≤ 64 → bits ≡ b → k < 64 / bits → k * b + b ≤ 64
word_begins b bits k size most is low =
    let row : (k + 1) * b ≤ 64 / bits * b = mul-le-mul_right b (omega arith) in
    omega (arith, words_of_64 b bits size most is)

-- so is the word behind them, where the chunk goes on in it
pub next_word : (b bits first by words : ℕ) → IsRegisterSize b → b ≤ 64 → bits ≡ b → 0 < by
    → first * b + by + 64 ≤ words * b → first + 64 / bits < words
next_word b bits first by words size most is some within =
    less_words (first + 64 / bits) words b (omega (arith, words_of_64 b bits size most is))

-- ---- blocks read and written

-- all of them
pub read_whole : {R : Type 0} (reading : Reading R) (words : List R) (place end : ℕ) (direction : Direction)
    (chunk : ℕ) → end ≡ place + 64 → ReadTo reading words place 64 end direction chunk
    → IsChunk reading words place 64 direction chunk
read_whole reading words place end direction chunk is had = record {
  inside = λ i low. had.inside i low (omega arith);
  past = λ i past small. absurd (omega arith);
}

-- a chunk from an index of a word on
pub read_across : {R : Type 0} (reading : Reading R) (direction : Direction) (words : List R)
    (place first by j low next down up r : ℕ) (x : R) → first * reading.bits + by ≡ place → 0 < by
    → by < reading.bits → reading.bits ≤ 64 → j * reading.bits ≡ first * reading.bits + 64
    → IsChunk reading words (first * reading.bits) 64 direction low → IsPart reading x 0 reading.bits direction next
    → IsLowered direction low by down → IsRaised direction next (64 - by) up → r ≡ bit_or down up → j < length words
    → x ≡ get_or words j x → IsChunk reading words place 64 direction r
read_across reading direction words place first by j low next down up r x start some index narrow row whole is moved put
    made within read = rw made (record {
      inside = λ i small. elim (cases_lt (i + by) 64) [
        | inl inside ↦
            let here : first * reading.bits + (i + by) ≡ place + i = omega arith in
            or_left down up (straight 64 direction i) (put.below i (omega arith))
            ∙ moved.inside i inside
            ∙ whole.inside (i + by) inside
            ∙ ap (entry reading words) here
        | inr across ↦
            let here : j * reading.bits + (0 + (i - (64 - by))) ≡ place + i = omega arith in
            or_right down up (straight 64 direction i) (moved.past i small across)
            ∙ put.above i (omega arith) small
            ∙ part_entry reading direction words j 0 reading.bits (i - (64 - by)) next x is within read (omega arith)
            (omega arith) (omega arith)
            ∙ ap (entry reading words) here
      ];
      past = λ i past small. absurd (omega arith);
    })

-- the same stretch by other numbers
pub overwrites_of : {R : Type 0} (reading : Reading R) (before after : List R) (place n at count : ℕ)
    (now : ℕ → Bool) → place ≡ at → n ≡ count → Overwrites reading before after place n now
    → Overwrites reading before after at count now
overwrites_of reading before after place n at count now same_place same_count is = rw (← same_place, ← same_count) is

-- one whole word more
pub scattered_more : {R : Type 0} (b : ℕ) (number : R → ℕ) (at : ℕ → ℕ) (direction : Direction) → Goes b at direction
    → (before mid : List R) (first k j by chunk rest : ℕ) (w : R) → 0 < b → j ≡ first + k → by ≡ k * b
    → by + b ≤ 64 → j < length mid → IsLowered direction chunk by rest
    → IsPlaced direction rest 0 b (number w)
    → Overwrites (reading_in b number at) before mid (first * b) (k * b) (chunk_bit direction chunk)
    → Overwrites (reading_in b number at) before (set mid j w) (first * b) ((k + 1) * b) (chunk_bit direction chunk)
scattered_more b number at direction goes before mid first k j by chunk rest w some is_j is_by fits within moved
    placed had =
    let reading = reading_in b number at in
    let x = get_or mid j w in
    let read : x ≡ get_or mid j x = get_or_default mid j w x within in
    let stored : IsStored reading x w 0 b (reading.digit w) = record {
      inside = λ i _ _ small. refl;
      below = λ i none _. absurd (omega arith);
      above = λ i past small. absurd (omega arith);
    } in
    let row : j * b ≡ first * b + k * b = rw is_j (omega arith) in
    overwrites_join reading before mid (set mid j w) (first * b) (k * b) (j * b + 0) (b - 0) ((k + 1) * b)
    (chunk_bit direction chunk) (λ i. reading.digit w (0 + i)) (omega arith) (omega arith)
    (λ i low.
    let index : 0 + i ≡ i = omega arith in
    let start : i - 0 ≡ i = omega arith in
    let there : i + by ≡ k * b + i = omega arith in
    ap (reading.digit w) index
    ∙ ap (digit_at (number w)) (goes i (omega arith))
    ∙ placed i (omega arith) (omega arith) (omega arith)
    ∙ ap (chunk_bit direction rest) start
    ∙ moved.inside i (omega arith)
    ∙ ap (chunk_bit direction chunk) there)
    had
    (stores_part reading mid j x w 0 b (reading.digit w) within read (omega arith) (omega arith) some stored)

-- ---- blocks moved

-- where a step begins
pub step_at : (b base m size by : ℕ) → size * b ≡ 64 → (base + m * size) * b + by ≡ base * b + by + 64 * m
step_at b base m size by all =
    let row : m * (size * b) ≡ m * 64 = ap (λ k. m * k) all in
    omega (arith, row)

-- what it reads, and what it writes, are some of the words
pub step_reads : (b from m size by count words : ℕ) → size * b ≡ 64 → m < count → from * b + by + 64 * count ≤ words * b
    → (from + m * size) * b + by + 64 ≤ words * b
step_reads b from m size by count words all less within = omega (arith, step_at b from m size by all)

pub step_writes : (b low m size count words : ℕ) → size * b ≡ 64 → m < count → low + count * size ≤ words
    → (low + m * size) * b + 64 ≤ words * b
step_writes b low m size count words all less within =
    let most : (low + count * size) * b ≤ words * b = mul-le-mul_right b within in
    omega (arith, most, step_at b low count size 0 all, step_at b low m size 0 all)

-- and so begin in one
pub step_begins : (b at by words : ℕ) → at * b + by + 64 ≤ words * b → at < words
step_begins b at by words within = less_words at words b (omega arith)

-- words of a block are narrow, and as many as 64 has of their bits
pub narrow_words : (b size : ℕ) → size * b ≡ 64 → b ≤ 64
narrow_words b zero all = absurd (omega (arith, all))
narrow_words b (suc n) all = omega (arith, all)

pub block_size : (b size : ℕ) → 0 < b → size * b ≡ 64 → 64 / b ≡ size
block_size b size some all =
    let whole : size * b + 0 ≡ 64 = omega (arith, all) in
    ap (λ n. n / b) (sym whole) ∙ div-mul-add size b 0 some

-- upwards, one step more
pub moves_up : {R : Type 0} (reading : Reading R) (before now after : List R) (source target n w : ℕ) (bits : ℕ → Bool)
    → target ≤ source → ((i : ℕ) → i < w → bits i ≡ entry reading now (source + n + i))
    → Moves reading before now source target n → Overwrites reading now after (target + n) w bits
    → Moves reading before after source target (n + w)
moves_up reading before now after source target n w bits order is had wrote =
    overwrites_join reading before now after target n (target + n) w (n + w) (λ k. entry reading before (source + k)) bits
    refl refl
    (λ i low.
    let at : source + n + i ≡ source + (n + i) = omega arith in
    is i low ∙ had.above (source + n + i) (omega arith) ∙ ap (entry reading before) at) had wrote

-- downwards, one step more
pub moves_down : {R : Type 0} (reading : Reading R) (before now after : List R) (source target n w : ℕ) (bits : ℕ → Bool)
    → source ≤ target → ((i : ℕ) → i < w → bits i ≡ entry reading now (source + i))
    → Moves reading before now (source + w) (target + w) n → Overwrites reading now after target w bits
    → Moves reading before after source target (w + n)
moves_down reading before now after source target n w bits order is had wrote = record {
  there = λ k small. elim (cases_lt k w) [
    | inl low ↦ wrote.there k low ∙ is k low ∙ had.below (source + k) (omega arith)
    | inr high ↦
        let at : target + w + (k - w) ≡ target + k = omega arith in
        let from : source + w + (k - w) ≡ source + k = omega arith in
        wrote.above (target + k) (omega arith)
        ∙ ap (entry reading now) (sym at)
        ∙ had.there (k - w) (omega arith)
        ∙ ap (entry reading before) from
  ];
  below = λ p low. wrote.below p low ∙ had.below p (omega arith);
  above = λ p high. wrote.above p (omega arith) ∙ had.above p (omega arith);
  words = wrote.words ∙ had.words;
}

-- whole steps are no more words than there are
pub whole_steps : (size n : ℕ) → n / size * size ≤ n
whole_steps size n = omega (arith, div-add-mod' n size)

-- the words of a run that whole blocks put, the first of them by way
pub block_run : (w : Way) (b source target len low high word by size start : ℕ)
    → start ≡ by_way w low (high - (high - low) / size * size) → IsRun b source target len low high word by
    → IsRun b source target len start (start + (high - low) / size * size) (word + (start - low)) by
block_run w b source target len low high word by size start at run =
    let done : ℕ = (high - low) / size * size in
    let most : low + done ≤ high = omega (arith, whole_steps size (high - low), run.order) in
    let ends = by_way_low w low (high - done) (omega arith) in
    run_part b source target len low high word by start (start + done) (rw at ends.0) (omega arith)
    (omega (arith, at, ends.1, most)) run
