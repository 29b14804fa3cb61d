-- Whose words a part of a window writes.
use Rattle.std.specs.Prelude.{ℕ}

-- the loan of the window, whose words that writes, and where it stands when it shows all its bits
pub record PartLender (X : Type 0) : Type 0 where
  pub loan : ℕ
  pub lender : X
  pub head : ℕ
  pub len : ℕ
