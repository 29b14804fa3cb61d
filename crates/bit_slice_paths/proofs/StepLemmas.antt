-- Counts of steps.
use Rattle.std.proofs.Common.{◌≡◌, ℕ, ◌+◌, arith, min}
use Rattle.bit_slice_paths.specs.Steps.{most_steps, Takes}

-- no step yet
pub takes_none : (old : ℕ) → Takes old old 0 0
takes_none old = record { at_least = omega arith; at_most = omega arith }

-- one more
pub takes_more : (old now new k : ℕ) → new ≡ min (now + 1) most_steps → Takes old now k k
    → Takes old new (k + 1) (k + 1)
takes_more old now new k is had =
    let a = had.at_least in
    let b = had.at_most in
    record { at_least = omega arith; at_most = omega arith }

-- the same count by another name
pub takes_as : (old new k n : ℕ) → k ≡ n → Takes old new k k → Takes old new n n
takes_as old new k n is had = rw (← is) had
