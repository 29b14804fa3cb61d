-- What an array of bits shows.
--
-- Its words: `array_words`. Its list: `array_bits`, the bits of its words (`first_bits`). What writes of the list leave:
-- `array_frame`.
use Rattle.std.specs.Prelude.{◌*◌, Bool, List, length, min}
use Rattle.bit_addressing_memory.specs.Memory.{Reading, memory, piece}
use Rattle.bit_slice_views.specs.SpanLimits.{MAX_BITS}
use Rattle.bit_slice_views_mut.specs.Frame.{Frame, frame_of}
use Rattle.bit_containers_array.specs.declared.array.BitArray.{BitArray}

-- all bits of some words, or the first `MAX_BITS` where there are more
abbrev pub first_bits : {R : Type 0} → Reading R → List R → List Bool
first_bits reading words = piece (memory reading words) 0 (min (length words * reading.bits) MAX_BITS)

-- the words of an array, as its value gives them
abbrev pub array_words : {A O S C R : Type 0} → (A → List R) → BitArray A O S C → List R
array_words words array = words array.words

-- its bits, at words that are read so
abbrev pub array_bits : {A O S C R : Type 0} → Reading R → (A → List R) → BitArray A O S C → List Bool
array_bits reading words array = first_bits reading (array_words words array)

-- what no write of bits of the list changes: how many words there are, and the bits behind the list, where the words
-- have more than `MAX_BITS`
abbrev pub array_frame : {A O S C R : Type 0} → Reading R → (A → List R) → BitArray A O S C → Frame (Unit {0})
array_frame reading words array =
    frame_of reading tt (array_words words array) 0 (length (array_bits reading words array))

-- the array with another value
abbrev pub array_with : {A O S C : Type 0} → BitArray A O S C → A → BitArray A O S C
array_with array words = record array { words = words }
