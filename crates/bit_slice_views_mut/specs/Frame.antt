-- What writes through a window leave.
use Rattle.std.specs.Prelude.{ℕ, ◌≡◌, ◌+◌, ◌<◌, ◌≤◌, Bool, List, length, take, drop}
use Rattle.bit_addressing_memory.specs.Memory.{Reading, entry, memory}

-- what no write through a window changes: whose words it writes and how many, where the window begins, and the bits of
-- the words before and behind it
pub record Frame (X : Type 0) : Type 0 where
  pub lender : X
  pub words : ℕ
  pub place : ℕ
  pub before : List Bool
  pub behind : List Bool

-- the frame of the n bits from a place of some words on
abbrev pub frame_of : {X R : Type 0} → Reading R → X → List R → ℕ → ℕ → Frame X
frame_of reading lender words place n = record {
  lender = lender;
  words = length words;
  place = place;
  before = take place (memory reading words);
  behind = drop (place + n) (memory reading words);
}

-- after is before but for the n entries from a place on: each other entry is as before, and there are as many words
pub record KeepsBeside {R : Type 0} (reading : Reading R) (before after : List R) (place n : ℕ) : Type 0 where
  pub below : (p : ℕ) → p < place → entry reading after p ≡ entry reading before p
  pub above : (p : ℕ) → place + n ≤ p → entry reading after p ≡ entry reading before p
  pub words : length after ≡ length before
