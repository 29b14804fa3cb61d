-- What a writable window shows.
use Rattle.std.specs.Prelude.{ℕ, Bool, List, length}
use Rattle.bit_addressing_memory.specs.Memory.{Reading, memory, piece}
use Rattle.bit_slice_views_mut.specs.Frame.{Frame, frame_of}
use Rattle.bit_slice_views_mut.specs.declared.view_mut.BitSliceMut.{BitSliceMut}

-- its bits, at words that are read so
abbrev pub lent_bits : {T O : Type 0} {g : _} → Reading T → BitSliceMut T O g → List Bool
lent_bits reading view = piece (memory reading view.words.now) view.head view.len

-- the words that it is a window of, and the loan of them
abbrev pub lent_words : {T O : Type 0} {g : _} → BitSliceMut T O g → List T
lent_words view = view.words.now

abbrev pub lent_lender : {T O : Type 0} {g : _} → BitSliceMut T O g → ℕ
lent_lender view = view.words.ghost_name

-- the place of its first bit
abbrev pub lent_place : {T O : Type 0} {g : _} → BitSliceMut T O g → ℕ
lent_place view = view.head

-- what no write through it changes
abbrev pub lent_frame : {T O : Type 0} {g : _} → Reading T → BitSliceMut T O g → Frame ℕ
lent_frame reading view =
    frame_of reading view.words.ghost_name view.words.now view.head (length (lent_bits reading view))
