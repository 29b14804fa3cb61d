-- Bits filled in one after another by a sweep that goes up, word by word. No public clause cites this module.
use Rattle.std.specs.Prelude.{ℕ, ◌+◌, ◌-◌, ◌*◌, ◌/◌, ◌%◌, ◌<◌, ◌≤◌, ◌≡◌, ◌&&◌, ◌++◌, Bool, false, List, length}
use Rattle.std.specs.Prelude.{if◌then◌else◌, nat_le, nat_lt, slice_index_or}
use Rattle.bit_addressing_memory.specs.Memory.{Reading, entry, memory, piece}
use Rattle.bit_addressing_memory.specs.Moves.{changed}
use Rattle.bit_addressing_memory.specs.Sweep.{edge_of, sweep_lender, sweep_words, way_of, writes_of}
use Rattle.bit_addressing_memory.specs.declared.sweep.Sweep.{Sweep}
use Rattle.bit_addressing_memory.specs.declared.sweep.Way.TheVariants.{Up}
use Rattle.bit_table_rows.specs.RowsKept.{left_before, rows_joined}

-- what stands at place p once these bits stand from `first` on: a bit of theirs, else what stood there
unfoldable pub filled_bit : {R : Type 0} → Reading R → List R → ℕ → List Bool → ℕ → Bool
filled_bit reading before first bits p =
    if nat_le first p && nat_lt p (first + length bits)
    then slice_index_or bits (p - first) false
    else entry reading before p

-- the word is the word j once these bits stand from `first` on
abbrev pub IsFilledWord : {R : Type 0} → Reading R → List R → ℕ → List Bool → ℕ → R → Type 0
IsFilledWord reading before first bits j word =
    (i : ℕ) → i < reading.bits → reading.digit word i ≡ filled_bit reading before first bits (j * reading.bits + i)

-- the bits stand from `first` up to before `to` in the words before that of `to`; the other words are as before, and
-- the word of `to` is at hand, where it is begun
pub record Filled {R : Type 0} (reading : Reading R) (before now : List R) (first to : ℕ) (word : R) (bits : List Bool)
    : Type 0 where
  pub size : to ≡ first + length bits
  pub below : (p : ℕ) → p < to / reading.bits * reading.bits
      → entry reading now p ≡ filled_bit reading before first bits p
  pub above : (p : ℕ) → to / reading.bits * reading.bits ≤ p → entry reading now p ≡ entry reading before p
  pub begun : first < to → 0 < to % reading.bits
      → IsFilledWord reading before first bits (to / reading.bits) word
  pub words : length now ≡ length before

-- the sweep t is s with `more` filled in from place `to` on, where `word` was at hand and now `next` is
pub record Fills {R : Type 0} (reading : Reading R) (s t : Sweep R) (word next : R) (first to : ℕ) (more : List Bool)
    : Type 0 where
  pub filled : (before : List R) (bits : List Bool)
      → Filled reading before (sweep_words s) first to word bits
      → Filled reading before (sweep_words t) first (to + length more) next (bits ++ more)
  pub ahead : (p : ℕ) → (to + length more) / reading.bits * reading.bits ≤ p
      → entry reading (sweep_words t) p ≡ entry reading (sweep_words s) p
  pub words : length (sweep_words t) ≡ length (sweep_words s)
  pub edge : edge_of s ≤ to / reading.bits → edge_of t ≤ (to + length more) / reading.bits
  pub writes : writes_of t + to / reading.bits ≡ writes_of s + (to + length more) / reading.bits
  pub few_changed : (number : R → ℕ) (others : List R)
      → changed number others (sweep_words t) + writes_of s ≤ changed number others (sweep_words s) + writes_of t
  pub way : way_of t ≡ way_of s
  pub lender : sweep_lender t ≡ sweep_lender s

-- before row k of the n rows from `first` on: the sweep t is s with so many of the rows before it filled in that stay
pub record AtRow {R : Type 0} (reading : Reading R) (s t : Sweep R) (start word : R) (first n w : ℕ) (off : List Bool)
    (k count : ℕ) : Type 0 where
  pub fills : Fills reading s t start word first first
      (rows_joined w (piece (memory reading (sweep_words s)) first (n * w)) (left_before off k))
  pub count_is : count ≡ length (left_before off k)
  pub few : count ≤ k
  pub kept_end : count * w ≤ k * w
  pub end : k * w ≤ n * w
  pub edge : edge_of t ≤ (first + count * w) / reading.bits
  pub way : way_of t ≡ Up
