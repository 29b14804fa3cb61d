-- Pieces of a window whose bits weigh in turn, and the chunks that hold their digits. No public clause cites this
-- module.
use Rattle.std.specs.Prelude.{◌≡◌, ℕ, ◌+◌, ◌-◌, ◌<◌, ◌≤◌, Bool, true, false}
use Rattle.bit_addressing_memory.specs.Bits.{digit_at}
use Rattle.bit_addressing_memory.specs.declared.direction.Direction.{Direction}
use Rattle.bit_addressing_memory.specs.declared.direction.Direction.TheVariants.{Ascending, Descending}
use Rattle.bit_addressing_memory.specs.Straight.{straight}
use Rattle.bit_slice_chunks.specs.Chunk.{chunk_bit}

-- the direction in which the bits of a word weigh
abbrev pub way_for : Bool → Direction
way_for true = Ascending
way_for false = Descending

-- the bit that weighs least of those from bit `from` up to before bit `end`
abbrev pub least_bit : Bool → ℕ → ℕ → ℕ
least_bit true from end = from
least_bit false from end = end - 1

-- the m bits from bit `from` on weigh one more each, in a direction, the least of them w; they are 1 to 64
pub record IsPiece (weighs : ℕ → ℕ) (n : ℕ) (way : Direction) (from m w : ℕ) : Type 0 where
  pub some : 0 < m
  pub few : m ≤ 64
  pub inside : from + m ≤ n
  pub fits : w + m ≤ n
  pub turns : (i : ℕ) → i < m → weighs (from + i) ≡ w + straight m way i

-- the first m bits of a chunk are the digits of a number from digit w on
abbrev pub ChunkOf : Direction → ℕ → ℕ → ℕ → ℕ → Type 0
ChunkOf way d w m chunk = (i : ℕ) → i < m → chunk_bit way chunk i ≡ digit_at d (w + straight m way i)
