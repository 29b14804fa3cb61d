-- The texts of bits: groups from the front, a digit each, in brackets, a comma and a space between two.
--
-- A group's number: `number_of`. All of them: `groups`. The text: `groups_text`, and at single bits `bits_text`.
use Rattle.std.specs.Prelude.{ℕ, ◌+◌, ◌*◌, Bool, false, List, length, map, fold}
use Rattle.std.specs.Int.{div_ceil, from_bool}
use Rattle.std.specs.Fmt.{digits}
use Rattle.std.specs.List.{range_with_len}
use Rattle.bit_addressing_memory.specs.Memory.{piece}
use Rattle.bit_addressing_span.specs.Texts.{numbers_text}

-- bits as a number, the first one highest
abbrev pub number_of : List Bool → ℕ
number_of bits = fold (λ n b. 2 * n + from_bool b) 0 bits

-- the numbers of the groups of so many bits: the last group may be shorter
abbrev pub groups : ℕ → List Bool → List ℕ
groups size bits =
    map (λ j. number_of (piece bits (j * size) size)) (range_with_len 0 (div_ceil (length bits) size))

-- the groups of at most four bits, each as one hexadecimal digit
abbrev pub groups_text : ℕ → Bool → List Bool → List ℕ
groups_text size upper bits = numbers_text (digits 16 upper) (groups size bits)

-- each bit as a digit
abbrev pub bits_text : List Bool → List ℕ
bits_text bits = numbers_text (digits 16 false) (map from_bool bits)
