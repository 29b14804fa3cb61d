-- The letters that a row bears.
use Rattle.std.specs.Prelude.{ℕ, Bool, if◌then◌else◌}
use Rattle.std.specs.Ordering.{nat_cmp}
use Rattle.std.specs.FinSet as set
use Rattle.std.specs.Coded.{Coded, coded_ℕ}

-- the letters that a row bears, each as its place in the alphabet
abbrev pub LetterSet : Type 0
LetterSet = set.FinSet nat_cmp

-- such a set is stored as the list of its letters
abbrev pub letters_code : Coded LetterSet
letters_code = set.code coded_ℕ

-- how many letters there are
abbrev pub letter_count : ℕ
letter_count = 26

-- whether a row with these letters bears letter x
abbrev pub bears : ℕ → LetterSet → Bool
bears x letters = set.contains letters x

-- the letters with letter x among them, or not
abbrev pub with_letter : ℕ → Bool → LetterSet → LetterSet
with_letter x bears_it letters = if bears_it then set.insert letters x else set.remove letters x
