-- How far two stretches of bits are the same, and where one stands in another memory.
use Rattle.std.specs.Prelude.{ℕ, ◌+◌, ◌<◌, ◌≤◌, ◌≡◌, ◌≢◌, List}
use Rattle.bit_addressing_memory.specs.Memory.{Reading, entry}

-- the n entries of two memories from places on are the same
abbrev pub AreSame : {R Q : Type 0} → Reading R → List R → ℕ → Reading Q → List Q → ℕ → ℕ → Type 0
AreSame reading words place its others other_place n =
    (k : ℕ) → k < n → entry reading words (place + k) ≡ entry its others (other_place + k)

-- they are the same before entry `at`, where they are not; at n, all of them
pub record Agrees {R Q : Type 0} (reading : Reading R) (words : List R) (place : ℕ) (its : Reading Q) (others : List Q)
    (other_place n at : ℕ) : Type 0 where
  pub most : at ≤ n
  pub same : AreSame reading words place its others other_place at
  pub differ : at < n → entry reading words (place + at) ≢ entry its others (other_place + at)

-- the first `done` of n entries are the same, and if these are not all, one of the n differs
pub record Matches {R Q : Type 0} (reading : Reading R) (words : List R) (place : ℕ) (its : Reading Q) (others : List Q)
    (other_place n done : ℕ) : Type 0 where
  pub most : done ≤ n
  pub same : AreSame reading words place its others other_place done
  pub differ : done < n → AreSame reading words place its others other_place n → ⊥

-- of so many places, counted from `place` on, the entries of another memory stand first at place `at`; where that is
-- `starts`, at none
pub record StandsFirst {R Q : Type 0} (reading : Reading R) (words : List R) (place : ℕ) (its : Reading Q)
    (others : List Q) (other_place n starts at : ℕ) : Type 0 where
  pub most : at ≤ starts
  pub here : at < starts → AreSame reading words (place + at) its others other_place n
  pub before : (i : ℕ) → i < at → AreSame reading words (place + i) its others other_place n → ⊥
