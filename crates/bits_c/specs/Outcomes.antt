-- The status of a call: which it is, by what was asked.
--
-- For each shape of call one word: `Ranged` asks where windows lie, `Sought` looks for a bit as well, `Numbered` has a
-- number's width to ask before. By them a status is one number, whatever the arguments are.
use Rattle.std.specs.Prelude.{◌≡◌, ℕ, ◌<◌, ◌≤◌, Option, Some, None}
use Rattle.bits_c.specs.declared.status.TheConstants.{OK, OUT_OF_RANGE, NONE, BAD_WIDTH}

-- done where this holds, else out of range
abbrev pub Ranged : ℕ → Type 0 → Type 0
Ranged status lies = (lies → status ≡ OK) × ((lies → ⊥) → status ≡ OUT_OF_RANGE)

-- the status of a search, by what it found
abbrev pub found_status : Option ℕ → ℕ
found_status (Some index) = OK
found_status None = NONE

-- out of range where this does not hold, else by what was found
abbrev pub Sought : ℕ → Type 0 → Option ℕ → Type 0
Sought status lies found = (lies → status ≡ found_status found) × ((lies → ⊥) → status ≡ OUT_OF_RANGE)

-- a number has 1 bit at least, and so many at most
abbrev pub IsWidth : ℕ → ℕ → Type 0
IsWidth most len = (0 < len) × (len ≤ most)

-- a bad width where len is none, else by whether this holds
abbrev pub Numbered : ℕ → ℕ → ℕ → Type 0 → Type 0
Numbered status most len lies =
    ((IsWidth most len → ⊥) → status ≡ BAD_WIDTH) × (IsWidth most len → Ranged status lies)
