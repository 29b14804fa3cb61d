-- Places in a memory, of any size: a word number and an index.
use Rattle.std.specs.Prelude.{ℕ, ◌+◌, ◌*◌}

-- the place as one number, where a word has b bits
abbrev pub place_of : ℕ → ℕ × ℕ → ℕ
place_of b place = place.0 * b + place.1
