-- Bits exchanged as in a mirror. No public clause of the crates above cites this module.
use Rattle.std.specs.Prelude.{ℕ, ◌+◌, ◌-◌, ◌<◌, ◌≤◌, ◌≡◌, List, length}
use Rattle.bit_addressing_memory.specs.Memory.{Reading, entry}

-- the first i of the n entries from a place on, and the last i, are exchanged as in a mirror: each other entry is as
-- before, and there are as many words
pub record Mirrored {R : Type 0} (reading : Reading R) (before now : List R) (place n i : ℕ) : Type 0 where
  pub front : (k : ℕ) → k < i → entry reading now (place + k) ≡ entry reading before (place + (n - 1 - k))
  pub back : (k : ℕ) → k < i → entry reading now (place + (n - 1 - k)) ≡ entry reading before (place + k)
  pub others : (p : ℕ) → (place ≤ p → place + i ≤ p) → (p < place + n → p + i < place + n)
      → entry reading now p ≡ entry reading before p
  pub words : length now ≡ length before
