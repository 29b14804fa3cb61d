-- Rows as a list of their own, cut out of a list of bits.
use Rattle.std.specs.Prelude.{ℕ, ◌≡◌, ◌+◌, ◌*◌, Bool, List, ◌++◌, length}

-- `rows n bits` are the n rows that so many bits hold, w bits each, each row by its own bits alone
pub record CutsRows {X : Type 0} (w : ℕ) (rows : ℕ → List Bool → List X) : Type 0 where
  pub count : (n : ℕ) (bits : List Bool) → length bits ≡ n * w → length (rows n bits) ≡ n
  pub joined : (m n : ℕ) (xs ys : List Bool) → length xs ≡ m * w → length ys ≡ n * w
      → rows (m + n) (xs ++ ys) ≡ rows m xs ++ rows n ys
