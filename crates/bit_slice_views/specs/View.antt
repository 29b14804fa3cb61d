-- What a shared window shows: a piece of its words' memory.
--
-- Its list: `view_bits`. Where it lies: `view_words`, `view_head`.
use Rattle.std.specs.Prelude.{ℕ, Bool, List}
use Rattle.bit_addressing_memory.specs.Memory.{Reading, memory, piece}
use Rattle.bit_slice_views.specs.declared.view.BitSlice.{BitSlice}

-- the bits of a window, at words that are read so
abbrev pub view_bits : {T O : Type 0} {g : _} → Reading T → BitSlice T O g → List Bool
view_bits reading view = piece (memory reading view.words.now) view.head view.len

-- the words that it is a window of
abbrev pub view_words : {T O : Type 0} {g : _} → BitSlice T O g → List T
view_words view = view.words.now

-- the index of its first bit in the first of them
abbrev pub view_head : {T O : Type 0} {g : _} → BitSlice T O g → ℕ
view_head view = view.head
