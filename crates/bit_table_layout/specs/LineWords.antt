-- The words of a line.
use Rattle.std.specs.Prelude.{ℕ, ◌==◌, ◌||◌, not, Bool, List, length, filter}
use Rattle.std.specs.List.{slice_split}

-- whether the byte b separates words: a space, a tab or a carriage return
abbrev pub is_separator : ℕ → Bool
is_separator b = b == 32 || (b == 9 || b == 13)

-- whether a part of a line has a byte
abbrev pub has_bytes : List ℕ → Bool
has_bytes part = not (length part == 0)

-- the words of a line: it is cut at each separator, and the parts without a byte are left out
abbrev pub words : List ℕ → List (List ℕ)
words line = filter has_bytes (slice_split is_separator line)
