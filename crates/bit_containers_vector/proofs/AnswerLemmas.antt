-- A closure that is called at index after index.
use Rattle.std.proofs.Common.{◌≡◌, ℕ, ◌+◌, ◌≤◌, Bool, List, [], ◌∷◌, ◌++◌, length, arith, length-append}
use Rattle.std.proofs.lemmas.Fn.{FoldsTo-push}
use Rattle.bit_containers_vector.specs.Answers.{Answers}

-- once more
pub answers_more : {F : Type 0} (step : F → ℕ → Bool → F → Type 0) (f last next : F) (from upto : ℕ) (ys : List Bool)
    (y : Bool) → from ≤ upto → Answers step f from upto ys last → step last upto y next
    → Answers step f from (upto + 1) (ys ++ y ∷ []) next
answers_more {F} step f last next from upto ys y ordered so_far call =
    let R : F × ℕ → Bool → F × ℕ → Type 0 = λ p b q. (q.1 ≡ p.1 + 1) × step p.0 p.1 b q.0 in
    let at : from + length ys ≡ upto = omega (arith, so_far.count) in
    let size : length (ys ++ y ∷ []) ≡ length ys + 1 = length-append ys (y ∷ []) in
    record {
      count = omega (arith, size, so_far.count);
      calls =
          FoldsTo-push R (f, from) ys (last, from + length ys) y (next, from + length (ys ++ y ∷ [])) so_far.calls
          (omega (arith, size), rw at call);
    }
