-- What a prime is, and how far a sieve has come.
--
-- Public: `IsPrime`. Of private steps: `IsLeft`, `Strikes`.
use Rattle.std.specs.Prelude.{ℕ, ◌*◌, ◌<◌, ◌≤◌, ◌≡◌, ◌≢◌, true, false}
use Rattle.std.specs.FinSet.{FinSet, contains}
use Rattle.std.specs.Ordering.{nat_cmp}

-- at least 2, and no product of two numbers that are
pub record IsPrime (p : ℕ) : Type 0 where
  pub least : 2 ≤ p
  pub no_product : (a b : ℕ) → 2 ≤ a → 2 ≤ b → a * b ≢ p

-- from 2 up to before the end, and no product of two numbers from 2 on of which the first is below a factor
pub record IsLeft (factor end n : ℕ) : Type 0 where
  pub inside : n < end
  pub least : 2 ≤ n
  pub no_product : (a b : ℕ) → 2 ≤ a → a < factor → 2 ≤ b → a * b ≢ n

-- new is old without the products of a factor and those numbers, from it on, that are among some
pub record Strikes (old new : FinSet nat_cmp) (factor : ℕ) (among : ℕ → Type 0) : Type 0 where
  pub none_new : (n : ℕ) → contains new n ≡ true → contains old n ≡ true
  pub others : (n : ℕ) → ((b : ℕ) → factor ≤ b → factor * b ≢ n) → contains new n ≡ contains old n
  pub struck : (b : ℕ) → factor ≤ b → among b → contains new (factor * b) ≡ false
