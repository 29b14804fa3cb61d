-- Which end of a word an order counts from.
use Rattle.std.specs.Prelude.{◌≡◌, ℕ, ◌-◌, ◌<◌, Bool, true, false}

-- an order of b bits counts from the lowest digit, or else from the highest
abbrev pub CountsFrom : Bool → ℕ → (ℕ → ℕ) → Type 0
CountsFrom true b at = (i : ℕ) → i < b → at i ≡ i
CountsFrom false b at = (i : ℕ) → i < b → at i ≡ b - 1 - i
