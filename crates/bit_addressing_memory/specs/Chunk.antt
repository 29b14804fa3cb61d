-- Chunks: numbers of 64 digits, their bits counted up from the lowest digit or down from the highest.
--
-- A bit: `chunk_bit`. What a chunk of a memory is: `IsChunk`. Numbers by their digits: `digits_in`, `HoldsDigits`,
-- `ReadsDigits`. The steps: the other records.
use Rattle.std.specs.Prelude.{ℕ, ◌+◌, ◌-◌, ◌/◌, ◌^◌, ◌<◌, ◌≤◌, ◌≡◌, ◌≢◌, Bool, false, List}
use Rattle.bit_addressing_memory.specs.Memory.{Reading, entry}
use Rattle.bit_addressing_order.specs.Bits.{digit_at}
use Rattle.bit_addressing_memory.specs.declared.direction.Direction.{Direction}
use Rattle.bit_addressing_memory.specs.declared.direction.Direction.TheVariants.{Ascending, Descending}
use Rattle.bit_addressing_memory.specs.Straight.{Goes, IsStraight, straight}

-- the digit of a word of b bits at an index, counted in a direction
abbrev pub word_bit : Direction → ℕ → ℕ → ℕ → Bool
word_bit direction b n i = digit_at n (straight b direction i)

-- the direction in which chunks of an order are had: that of its positions where these go straight, else up
pub record IsOwn (b : ℕ) (at : ℕ → ℕ) (direction : Direction) : Type 0 where
  pub goes : (way : Direction) → Goes b at way → direction ≡ way
  pub other : (IsStraight b at → ⊥) → direction ≡ Ascending

-- bit k of a chunk
abbrev pub chunk_bit : Direction → ℕ → ℕ → Bool
chunk_bit direction chunk k = word_bit direction 64 chunk k

-- the chunk has the n entries of a memory from a place on, and zeros behind them
pub record IsChunk {R : Type 0} (reading : Reading R) (words : List R) (place n : ℕ) (direction : Direction)
    (chunk : ℕ) : Type 0 where
  pub inside : (i : ℕ) → i < n → chunk_bit direction chunk i ≡ entry reading words (place + i)
  pub past : (i : ℕ) → n ≤ i → i < 64 → chunk_bit direction chunk i ≡ false

-- the number whose n digits a chunk has, and zeros behind them
abbrev pub digits_in : Direction → ℕ → ℕ → ℕ
digits_in Ascending n chunk = chunk
digits_in Descending n chunk = chunk / 2 ^ (64 - n)

-- the first n bits of a chunk are the lowest digits of a number
abbrev pub HoldsDigits : Direction → ℕ → ℕ → ℕ → Type 0
HoldsDigits direction d n chunk = (i : ℕ) → i < n → chunk_bit direction chunk i ≡ digit_at d (straight n direction i)

-- a number has the n entries of a memory from a place on as its digits, and no others
pub record ReadsDigits {R : Type 0} (reading : Reading R) (words : List R) (place n : ℕ) (direction : Direction)
    (d : ℕ) : Type 0 where
  pub digits : (i : ℕ) → i < n → digit_at d (straight n direction i) ≡ entry reading words (place + i)
  pub small : d < 2 ^ n

-- the chunk has those of the n entries of a memory from a place on that lie below an end, and zeros from that end on
pub record ReadTo {R : Type 0} (reading : Reading R) (words : List R) (place n end : ℕ) (direction : Direction)
    (chunk : ℕ) : Type 0 where
  pub inside : (i : ℕ) → i < n → place + i < end → chunk_bit direction chunk i ≡ entry reading words (place + i)
  pub past : (i : ℕ) → i < 64 → end ≤ place + i → chunk_bit direction chunk i ≡ false

pub record IsLowered (direction : Direction) (chunk by result : ℕ) : Type 0 where
  pub inside : (i : ℕ) → i + by < 64 → chunk_bit direction result i ≡ chunk_bit direction chunk (i + by)
  pub past : (i : ℕ) → i < 64 → 64 ≤ i + by → chunk_bit direction result i ≡ false

pub record IsRaised (direction : Direction) (chunk by result : ℕ) : Type 0 where
  pub below : (i : ℕ) → i < by → chunk_bit direction result i ≡ false
  pub above : (i : ℕ) → by ≤ i → i < 64 → chunk_bit direction result i ≡ chunk_bit direction chunk (i - by)

pub record IsCut (direction : Direction) (chunk count result : ℕ) : Type 0 where
  pub inside : (i : ℕ) → i < count → chunk_bit direction result i ≡ chunk_bit direction chunk i
  pub past : (i : ℕ) → count ≤ i → i < 64 → chunk_bit direction result i ≡ false

pub record IsRest (direction : Direction) (chunk from result : ℕ) : Type 0 where
  pub below : (i : ℕ) → i < from → chunk_bit direction result i ≡ false
  pub above : (i : ℕ) → from ≤ i → i < 64 → chunk_bit direction result i ≡ chunk_bit direction chunk i

-- n bits of a chunk, from bit `from` on, are the first of another, and the others are as they were
pub record IsPatched (direction : Direction) (chunk from n other result : ℕ) : Type 0 where
  pub inside : (i : ℕ) → i < n → chunk_bit direction result (from + i) ≡ chunk_bit direction other i
  pub below : (i : ℕ) → i < from → chunk_bit direction result i ≡ chunk_bit direction chunk i
  pub above : (i : ℕ) → from + n ≤ i → i < 64 → chunk_bit direction result i ≡ chunk_bit direction chunk i

-- the bits of a chunk in a direction are those of another in a direction of its own
abbrev pub IsFaced : Direction → Direction → ℕ → ℕ → Type 0
IsFaced from to chunk result = (i : ℕ) → i < 64 → chunk_bit to result i ≡ chunk_bit from chunk i

-- the first bits of a chunk are those of another, the last of them first
abbrev pub IsTurned : Direction → ℕ → ℕ → ℕ → Type 0
IsTurned direction chunk count result =
    (i : ℕ) → i < count → chunk_bit direction result i ≡ chunk_bit direction chunk (count - 1 - i)

-- two chunks have the same bits before bit `at`, where they have not; at 64, all the same
pub record AgreeTo (direction : Direction) (chunk other at : ℕ) : Type 0 where
  pub most : at ≤ 64
  pub same : (i : ℕ) → i < at → chunk_bit direction chunk i ≡ chunk_bit direction other i
  pub differ : at < 64 → chunk_bit direction chunk at ≢ chunk_bit direction other at

-- the chunk has the bits of a word at the indices from one up to before another, and zeros from the end of the word on
pub record IsPart {R : Type 0} (reading : Reading R) (word : R) (from upto : ℕ) (direction : Direction) (chunk : ℕ)
    : Type 0 where
  pub inside : (i : ℕ) → i < 64 → from + i < upto → chunk_bit direction chunk i ≡ reading.digit word (from + i)
  pub past : (i : ℕ) → i < 64 → reading.bits ≤ from + i → chunk_bit direction chunk i ≡ false

-- the word n of b bits has the bits of a chunk from an index on
abbrev pub IsPlaced : Direction → ℕ → ℕ → ℕ → ℕ → Type 0
IsPlaced direction chunk from b n =
    (i : ℕ) → from ≤ i → i < b → i - from < 64 → word_bit direction b n i ≡ chunk_bit direction chunk (i - from)
