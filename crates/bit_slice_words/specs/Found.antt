-- Where a bit is found in a list: the test that it passes, and the last index of it.
--
-- `position` of std is the first index at which a test passes.
use Rattle.std.specs.Prelude.{ℕ, ◌-◌, Bool, true, false, not, List, Option, length, reverse, position}
use Rattle.std.specs.Option.{option_map}

-- whether a bit is this one: itself for true, flipped for false
abbrev pub is_bit : Bool → Bool → Bool
is_bit true x = x
is_bit false x = not x

-- the last index at which a test passes: the first of the list read from its end, counted from its start
unfoldable pub last_position : {X : Type 0} → (X → Bool) → List X → Option ℕ
last_position test xs = option_map (λ i. length xs - 1 - i) (position test (reverse xs))
