-- Sets of numbers, as contracts see them: finite sets of std, in the order of numbers.
use Rattle.std.specs.Prelude.{ℕ, ◌≡◌, List, nat_lt}
use Rattle.std.specs.List.Sorted.{IsStrictlyIncreasing}
use Rattle.std.specs.Ordering.{nat_cmp}
use Rattle.std.specs.FinSet.{FinSet, from_list, len, retain}

-- how many numbers of a set are below n
abbrev pub rank : FinSet nat_cmp → ℕ → ℕ
rank s n = len (retain s (λ m. nat_lt m n))

-- xs has the numbers of a set, each once, ascending
pub record Lists (xs : List ℕ) (s : FinSet nat_cmp) : Type 0 where
  pub numbers : from_list xs ≡ s
  pub ascending : IsStrictlyIncreasing xs
