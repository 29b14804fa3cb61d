-- The neighbours of an index inside a word, and the index so many bits away.
use Rattle.std.specs.Prelude.{◌≡◌, ℕ, ℤ, pos, ◌+◌, ◌-◌, ◌%◌, ◌<◌, ◌*ℤ◌, ◌+ℤ◌, List, ◌++◌, codes}
use Rattle.std.specs.Fmt.{decimal}

-- the index above i in a word of so many bits: above the last comes the first
abbrev pub next_index : ℕ → ℕ → ℕ
next_index bits i = (i + 1) % bits

-- the index below i in a word of so many bits: below the first comes the last
abbrev pub prev_index : ℕ → ℕ → ℕ
prev_index bits i = (i + (bits - 1)) % bits

-- the place of index i, k bits on, is index j of the word so many words on: words times bits and j
-- make i and k, and j is an index, so the words are rounded down
pub record IsOffset (bits i : ℕ) (k words : ℤ) (j : ℕ) : Type 0 where
  pub place : (words *ℤ pos bits) +ℤ pos j ≡ pos i +ℤ k
  pub within : j < bits

-- what is said of a number n that is no index of a word with so many bits and that name
abbrev pub index_error_text : ℕ → List ℕ → ℕ → List ℕ
index_error_text bits name n =
    codes "index " ++ (decimal n ++ (codes " is not below " ++ (decimal bits ++ (codes " of " ++ name))))
