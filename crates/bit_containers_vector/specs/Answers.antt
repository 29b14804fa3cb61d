-- What a closure answers at index after index.
use Rattle.std.specs.Prelude.{ℕ, ◌≡◌, ◌+◌, ◌-◌, Bool, List, length}
use Rattle.std.specs.List.{FoldsTo}

-- the closure, called at each index from `from` up to before `upto`, answered ys and became `last`: `step f i y f'` says
-- that f, called at i, answers y and becomes f'
pub record Answers {F : Type 0} (step : F → ℕ → Bool → F → Type 0) (f : F) (from upto : ℕ) (ys : List Bool) (last : F)
    : Type 0 where
  pub count : length ys ≡ upto - from
  pub calls : FoldsTo {P = F × ℕ} (λ p y q. (q.1 ≡ p.1 + 1) × step p.0 p.1 y q.0) (f, from) ys (last, from + length ys)
