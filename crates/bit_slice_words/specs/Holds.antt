-- One list inside another.
use Rattle.std.specs.Prelude.{◌≡◌, ℕ, ◌+◌, ◌≤◌, List, length}
use Rattle.bit_addressing_memory.specs.Memory.{piece}

-- the second list stands somewhere in the first: the elements from some index on are its own, in order
abbrev pub Holds : {X : Type 0} → List X → List X → Type 0
Holds xs ys = (i : ℕ) × (i + length ys ≤ length xs) × (piece xs i (length ys) ≡ ys)
