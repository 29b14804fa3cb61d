-- Parts of a writable window, over what contracts see of it: its list, whose words it writes, which, and where.
use Rattle.std.specs.Prelude.{ℕ, ◌≡◌, ◌+◌, ◌*◌, ◌≤◌, Bool, List, length}
use Rattle.bit_addressing_memory.specs.Memory.{Reading, memory, piece}
use Rattle.bit_slice_views_mut.specs.Frame.{Frame, frame_of}

-- what is known of each writable window of a type V over words R
pub record Windows (V X R : Type 0) : Type 0 where
  pub reading : Reading R
  pub some : 1 ≤ reading.bits
  pub bits : V → List Bool
  pub lender : V → X
  pub words : V → List R
  pub place : V → ℕ
  pub frame : V → Frame X
  pub window : (v : V) → bits v ≡ piece (memory reading (words v)) (place v) (length (bits v))
  pub fits : (v : V) → place v + length (bits v) ≤ length (words v) * reading.bits
  pub framed : (v : V) → frame v ≡ frame_of reading (lender v) (words v) (place v) (length (bits v))

-- the window `part` shows the n bits from the place `at` on of the words that v shows bits of
pub record IsPart {V X R : Type 0} (of : Windows V X R) (v : V) (at n : ℕ) (part : V) : Type 0 where
  pub words : of.words part ≡ of.words v
  pub lender : of.lender part ≡ of.lender v
  pub place : of.place part ≡ at
  pub len : length (of.bits part) ≡ n
