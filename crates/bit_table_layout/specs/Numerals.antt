-- Numbers as words spell them in decimal.
use Rattle.std.specs.Prelude.{ℕ, ◌==◌, ◌&&◌, nat_lt, ℤ, pos, neg_ℤ, Bool, List, []}
use Rattle.std.specs.Prelude.{◌∷◌, length, Option, Some, None, if◌then◌else◌}
use Rattle.std.specs.List.{list_all}
use Rattle.std.specs.Char.{is_ascii_digit}
use Rattle.std.specs.Str.Parse.{digits_value}

-- whether a word is one or more decimal digits
abbrev pub is_number : List ℕ → Bool
is_number word = nat_lt 0 (length word) && list_all is_ascii_digit word

-- the number that decimal digits spell
abbrev pub number_of : List ℕ → ℕ
number_of word = digits_value 10 word

-- the number that a word spells, where it is one or more digits
abbrev pub number_in : List ℕ → Option ℕ
number_in word = if is_number word then Some (number_of word) else None

-- the whole number that a word spells: digits, or `-` and digits
abbrev pub whole_number_in : List ℕ → Option ℤ
whole_number_in [] = None
whole_number_in (b ∷ bs) =
    if b == 45 then (if is_number bs then Some (neg_ℤ (pos (number_of bs))) else None)
    else (if is_number (b ∷ bs) then Some (pos (number_of (b ∷ bs))) else None)
