-- For callers.
--
-- What each step says of its item: `each_step`. Where each answer is the bit itself, the bits asked of first are zeros and
-- the cut is at a one: `zeros_before`, `one_there`.
use Rattle.std.proofs.Common.{◌≡◌, ℕ, zero, suc, ◌+◌, ◌<◌, ◌≤◌, Bool, true, false, List, get_or, length, arith, sym, subst, inl, inr, Bor}
use Rattle.std.proofs.lemmas.Bool.{cases_lt, lt-ltb}
use Rattle.std.specs.Fn.{Mut}
use Rattle.std.specs.List.{FoldsTo, range_with_len}
use Rattle.bit_slice_splits.specs.Ways.{AnswersBit, Asked, Asks, SplitWay}

-- what each step says of its item
pub each_step : {F : Type 0} (R : F → ℕ → F → Type 0) (P : ℕ → Type 0) (f last : F) (from n : ℕ)
    → ((p : F) (k : ℕ) (q : F) → R p k q → P k) → FoldsTo R f (range_with_len from n) last → (k : ℕ) → from ≤ k
    → k < from + n → P k
each_step R P f last from zero says steps k low high = absurd (omega arith)
each_step R P f last from (suc n) says (next, step, rest) k low high =
    elim (cases_lt from k) [
      | inl later ↦ each_step R P next last (from + 1) n says rest k (omega arith) (omega arith)
      | inr first ↦ let here : k ≡ from = omega arith in subst P (sym here) (says f from next step)
    ]

-- such a predicate was asked of zeros before it answered true
pub zeros_before : {F : Type 0} (way : SplitWay) (g : Mut F (ℕ × (Bor Bool × Unit {0})) Bool) (bits : List Bool) (f : F)
    (m : ℕ) (f' : F) → AnswersBit g → Asks way g bits f m f' → (k : ℕ) → k < m
    → get_or bits (way.index (length bits) k) false ≡ false
zeros_before way g bits f m f' answers asks k low =
    each_step (λ p j q. Asked g p (way.index (length bits) j) (get_or bits (way.index (length bits) j) false) false q)
    (λ j. get_or bits (way.index (length bits) j) false ≡ false) f asks.mid 0 m
    (λ p j q asked. sym (answers p _ _ _ q asked)) asks.before k (omega arith) (omega arith)

-- and then of a one
pub one_there : {F : Type 0} (way : SplitWay) (g : Mut F (ℕ × (Bor Bool × Unit {0})) Bool) (bits : List Bool) (f : F)
    (m : ℕ) (f' : F) → AnswersBit g → Asks way g bits f m f' → m < way.tries (length bits)
    → get_or bits (way.index (length bits) m) false ≡ true
one_there way g bits f m f' answers asks low =
    let there = asks.there in
    sym (answers asks.mid _ _ _ f' (rw (lt-ltb m (way.tries (length bits)) low) at there))
