-- Runs of equal bits at the ends of a list.
use Rattle.std.specs.Prelude.{ℕ, Bool, not, List, reverse}
use Rattle.std.specs.List.{position_or_len}
use Rattle.bit_slice_words.specs.Found.{is_bit}

-- how many bits stand before the first that is another than `bit`, or before the end
abbrev pub leading : Bool → List Bool → ℕ
leading bit bits = position_or_len (is_bit (not bit)) bits

-- how many stand behind the last that is another
abbrev pub trailing : Bool → List Bool → ℕ
trailing bit bits = leading bit (reverse bits)
