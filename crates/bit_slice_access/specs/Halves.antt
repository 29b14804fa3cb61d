-- Words split at a border.
use Rattle.std.specs.Prelude.{ℕ, ◌≡◌, ◌++◌, List, length, take, drop}
use Rattle.bit_slice_access.specs.declared.halves.Halves.{Halves}

-- both slices, end to end
abbrev pub halves_words : {T : Type 0} → Halves T → List T
halves_words halves = halves.left.now ++ halves.right.now

-- the slices are these words, split before one of them
pub record IsSplit {T : Type 0} (words : List T) (border : ℕ) (halves : Halves T) : Type 0 where
  pub left : halves.left.now ≡ take border words
  pub right : halves.right.now ≡ drop border words

-- each slice is the one that was lent, and has as many words
pub record KeepsHalves {T : Type 0} (before after : Halves T) : Type 0 where
  pub left : after.left.ghost_name ≡ before.left.ghost_name
  pub left_len : length after.left.now ≡ length before.left.now
  pub right : after.right.ghost_name ≡ before.right.ghost_name
  pub right_len : length after.right.now ≡ length before.right.now
