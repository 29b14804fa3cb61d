-- What a closure fills a list with.
use Rattle.std.specs.Prelude.{◌≡◌, ℕ, ◌+◌, Bool, List, length}
use Rattle.std.specs.List.{FoldsTo}

-- calls at the indices 0, 1, .. in turn, from the state f to `last`, answered these bits
abbrev pub Filled : {F : Type 0} → (F → ℕ → Bool → F → Type 0) → F → List Bool → F → Type 0
Filled {F} step f bits last =
    FoldsTo {P = F × ℕ} (λ p bit q. step p.0 p.1 bit q.0 × (q.1 ≡ p.1 + 1)) (f, 0) bits (last, length bits)
