-- The ways of a sweep, and what its edge says.
use Rattle.std.specs.Prelude.{ℕ, ◌+◌, ◌-◌, ◌<◌, ◌≤◌, ◌≡◌, cond, nat_le}
use Rattle.bit_addressing_memory.specs.declared.sweep.Way.{Way}
use Rattle.bit_addressing_memory.specs.declared.sweep.Way.TheVariants.{Up, Down}

-- the way of a move from source to target: up where the target is not above the source
abbrev pub way_for : ℕ → ℕ → Way
way_for source target = cond (nat_le target source) Up Down

-- a move that goes this way reads each source before it writes there
abbrev pub ReadsFirst : Way → ℕ → ℕ → Type 0
ReadsFirst Up source target = target ≤ source
ReadsFirst Down source target = source ≤ target

-- source and target of a move that goes this way lie one place apart
abbrev pub AreNear : Way → ℕ → ℕ → Type 0
AreNear Up source target = target + 1 ≡ source
AreNear Down source target = source + 1 ≡ target

-- the first of two numbers upwards, the second one downwards
abbrev pub by_way : Way → ℕ → ℕ → ℕ
by_way Up up down = up
by_way Down up down = down

-- where the edge of a fresh sweep over n words lies
abbrev pub first_edge : Way → ℕ → ℕ
first_edge Up n = 0
first_edge Down n = n

-- the edge once the word k is written
abbrev pub edge_after : Way → ℕ → ℕ
edge_after Up k = k + 1
edge_after Down k = k

-- the word k lies past the last written one, in the sweep's way
abbrev pub IsPast : Way → ℕ → ℕ → Type 0
IsPast Up edge k = edge ≤ k
IsPast Down edge k = k < edge

-- how many of n words the edge has passed
abbrev pub passed : Way → ℕ → ℕ → ℕ
passed Up edge n = edge
passed Down edge n = n - edge

-- the words from low up to before high lie past the last written one, in the sweep's way
abbrev pub ArePast : Way → ℕ → ℕ → ℕ → Type 0
ArePast Up edge low high = edge ≤ low
ArePast Down edge low high = high ≤ edge

-- the edge lies behind no word but those up to before high, or from low on, in the sweep's way
abbrev pub IsWithin : Way → ℕ → ℕ → ℕ → Type 0
IsWithin Up edge low high = edge ≤ high
IsWithin Down edge low high = low ≤ edge
