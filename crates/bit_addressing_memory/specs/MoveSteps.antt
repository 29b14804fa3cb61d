-- The steps of a move, word by word and bit by bit. No public clause cites this module.
use Rattle.std.specs.Prelude.{ℕ, ◌+◌, ◌-◌, ◌*◌, ◌<◌, ◌≤◌, ◌≡◌, Bool, List, Option, Some, None, length, min}
use Rattle.std.specs.Prelude.{if◌then◌else◌, ◌&&◌, nat_le, nat_lt}
use Rattle.bit_addressing_memory.specs.Lies.{Lies}
use Rattle.bit_addressing_memory.specs.Memory.{Reading, entry}
use Rattle.bit_addressing_memory.specs.declared.sweep.Sweep.{Sweep}
use Rattle.bit_addressing_memory.specs.Moves.{changed}
use Rattle.bit_addressing_memory.specs.Sweep.{SameButReads, edge_of, reads_of, sweep_lender, sweep_words, way_of, writes_of}
use Rattle.bit_addressing_memory.specs.Ways.{ArePast, IsWithin, ReadsFirst}

-- what a move of len bits from source to target leaves at place p: the source's bit inside the target, else its own
unfoldable pub moved_bit : {R : Type 0} → Reading R → List R → ℕ → ℕ → ℕ → ℕ → Bool
moved_bit reading before source target len p =
    if nat_le target p && nat_lt p (target + len)
    then entry reading before (source + (p - target))
    else entry reading before p

-- the digits of the word are those that the move leaves in the word k
abbrev pub IsGathered : {R : Type 0} → Reading R → List R → ℕ → ℕ → ℕ → ℕ → R → Type 0
IsGathered reading before k source target len word =
    (i : ℕ) → i < reading.bits
    → reading.digit word i ≡ moved_bit reading before source target len (k * reading.bits + i)

-- the words from low up to high are as the move leaves them, and the others are as before
pub record Swept {R : Type 0} (reading : Reading R) (before now : List R) (source target len low high : ℕ)
    : Type 0 where
  pub written : (p : ℕ) → low * reading.bits ≤ p → p < high * reading.bits
      → entry reading now p ≡ moved_bit reading before source target len p
  pub others : (p : ℕ) → (low * reading.bits ≤ p → high * reading.bits ≤ p)
      → entry reading now p ≡ entry reading before p
  pub words : length now ≡ length before

-- the word begins with the n entries from a place on
abbrev pub BeginsWith : {R : Type 0} → Reading R → List R → ℕ → ℕ → R → Type 0
BeginsWith reading words place n word =
    (i : ℕ) → i < n → reading.digit word i ≡ entry reading words (place + i)

-- the word k has bits of the target, and no others, at the indices from one up to before another
pub record IsPart (b k target len from upto : ℕ) : Type 0 where
  pub from_is : from ≡ target - k * b
  pub upto_is : upto ≡ min b (target + len - k * b)
  pub order : from < upto
  pub most : upto ≤ b

-- the words from low up to high have no bits but the target's, and take those from the index `by` of a word on
pub record IsRun (b source target len low high word by : ℕ) : Type 0 where
  pub order : low ≤ high
  pub begins : target ≤ low * b
  pub ends : high * b ≤ target + len
  pub index : by < b
  pub first : word * b + by ≡ source + (low * b - target)

-- the sweep s may put the words from low up to high as the move leaves them: each of them has bits of the target, none was
-- put, and no source is written before it is read
pub record CanPut {R : Type 0} (b : ℕ) (s : Sweep R) (source target len low high : ℕ) : Type 0 where
  pub order : ReadsFirst (way_of s) source target
  pub past : ArePast (way_of s) (edge_of s) low high
  pub some : 0 < len
  pub begins : target < low * b + b
  pub ends : high * b < target + len + b
  pub source_lies : Lies b (sweep_words s) source len
  pub target_lies : Lies b (sweep_words s) target len

-- how many words are read at most for one that is put: three where shifts make it, else its own and one for each bit
abbrev pub most_reads : {X : Type 0} → Option X → ℕ → ℕ
most_reads (Some straight) b = 3
most_reads None b = b + 1

-- the word is the word k as the move leaves it, and the sweep t is s but for so many reads at most
pub record Gathers {R : Type 0} (reading : Reading R) (most : ℕ) (s t : Sweep R) (source target len k : ℕ) (word : R)
    : Type 0 where
  pub digits : IsGathered reading (sweep_words s) k source target len word
  pub reads : reads_of t ≤ reads_of s + most
  pub same : SameButReads s t
  pub lender : sweep_lender t ≡ sweep_lender s

-- the sweep t is s with the words from low up to high put as the move leaves them, once each, with so many reads a word at
-- most
pub record PutsWords {R : Type 0} (reading : Reading R) (most : ℕ) (s t : Sweep R) (source target len low high : ℕ)
    : Type 0 where
  pub swept : Swept reading (sweep_words s) (sweep_words t) source target len low high
  pub writes : writes_of t + low ≡ writes_of s + high
  pub few_changed : (number : R → ℕ) (others : List R)
      → changed number others (sweep_words t) + low ≤ changed number others (sweep_words s) + high
  pub reads : reads_of t + most * low ≤ reads_of s + most * high
  pub edge : IsWithin (way_of t) (edge_of t) low high
  pub way : way_of t ≡ way_of s
  pub lender : sweep_lender t ≡ sweep_lender s
