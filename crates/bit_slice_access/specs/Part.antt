-- A part of a window that is lent as a window.
--
-- What it writes in: `part_view`, `part_loan`. The window that it is cut from: `part_head`, `part_len`, its bits as
-- they are now, `part_whole`, and its frame, `part_around`. Whose words they are: `part_lender`.
use Rattle.std.specs.Prelude.{ℕ, Bool, List}
use Rattle.bit_addressing_memory.specs.Memory.{Reading, memory, piece}
use Rattle.bit_slice_views_mut.specs.Frame.{Frame, frame_of}
use Rattle.bit_slice_access.specs.PartLender.{PartLender}
use Rattle.bit_slice_access.specs.declared.part.Part.{Part}

-- the window, as it shows the part
abbrev pub part_view : {V S O : Type 0} {m b r c p : _} → Part V S O m b r c p → V
part_view part = part.of.now

-- the loan of the window
abbrev pub part_loan : {V S O : Type 0} {m b r c p : _} → Part V S O m b r c p → ℕ
part_loan part = part.of.ghost_name

-- the place of the whole window's first bit
abbrev pub part_head : {V S O : Type 0} {m b r c p : _} → Part V S O m b r c p → ℕ
part_head part = part.head

-- how many bits the whole window has
abbrev pub part_len : {V S O : Type 0} {m b r c p : _} → Part V S O m b r c p → ℕ
part_len part = part.len

-- the bits of the whole window, in words that are read so
abbrev pub part_whole : {V S O : Type 0} {m b r c p : _} → Reading S → (V → List S) → Part V S O m b r c p → List Bool
part_whole reading words part = piece (memory reading (words part.of.now)) part.head part.len

-- the frame of the whole window
abbrev pub part_around : {V S O X : Type 0} {m b r c p : _} → Reading S → (V → X) → (V → List S)
    → Part V S O m b r c p → Frame X
part_around reading lender words part =
    frame_of reading (lender part.of.now) (words part.of.now) part.head part.len

-- whose words it writes
abbrev pub part_lender : {V S O X : Type 0} {m b r c p : _} → (V → X) → Part V S O m b r c p → PartLender X
part_lender lender part = record {
  loan = part.of.ghost_name;
  lender = lender part.of.now;
  head = part.head;
  len = part.len;
}
