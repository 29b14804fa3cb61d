-- Bits filled part by part, up to where no bit is split yet.
use Rattle.std.proofs.Common.{◌≡◌, ℕ, ◌+◌, ◌-◌, ◌<◌, ◌≤◌, Bool, true, false, cond, nat_eq, List, length, get_or, refl, sym}
use Rattle.std.proofs.Common.{ap, ◌∙◌, inl, inr, arith, rules, replicate}
use Rattle.std.proofs.lemmas.Bool.{cases_lt}
use Rattle.std.proofs.lemmas.Bool.Decides.{nat_tests}
use Rattle.std.proofs.lemmas.List.{ext_get_or, get_or-replicate, length-replicate}
use Rattle.bit_addressing_memory.specs.Memory.{piece, with_piece}
use Rattle.bit_addressing_memory.proofs.MemoryLemmas.{get_or-piece, with_piece_above, with_piece_below, with_piece_inside}

pub same_number : (m n : ℕ) → m ≡ n → nat_eq m n ≡ true
same_number m n same = grind (arith, nat_tests)

pub other_number : (m n : ℕ) → m < n → nat_eq m n ≡ false
other_number m n low = grind (arith, nat_tests)

-- one more part is filled, and the bit behind it, if there is one, is a one
pub filled_more : (whole left : List Bool) (from n m next : ℕ) → from + n ≤ length whole → left ≡ piece whole from n
    → m ≤ n → next ≡ from + cond (nat_eq m n) n (m + 1) → (m < n → get_or left m false ≡ true)
    → ((k : ℕ) → k < from → get_or whole k false ≡ true) → (k : ℕ) → k < next
    → get_or (with_piece whole from (replicate m true)) k false ≡ true
filled_more whole left from n m next fits is low at cut filled k below =
    let size : length (replicate m true) ≡ m = length-replicate m true in
    let room : from + length (replicate m true) ≤ length whole = omega arith in
    elim (cases_lt k from) [
      | inl before ↦ with_piece_below whole from (replicate m true) k false room before ∙ filled k before
      | inr above ↦ elim (cases_lt k (from + m)) [
        | inl inside ↦
            with_piece_inside whole from (replicate m true) k (k - from) false room (omega arith) (omega arith)
            ∙ grind (arith, get_or-replicate)
        | inr past ↦
            elim (cases_lt m n) [
              | inl more ↦
                  let next_is : next ≡ from + (m + 1) = rw (other_number m n more) at at in
                  let here : k ≡ from + m = omega arith in
                  with_piece_above whole from (replicate m true) k false room (omega arith)
                  ∙ ap (λ i. get_or whole i false) here ∙ sym (get_or-piece whole from n m false more)
                  ∙ ap (λ xs. get_or xs m false) (sym is) ∙ cut more
              | inr all ↦
                  let next_is : next ≡ from + n = rw (same_number m n (omega arith)) at at in
                  absurd (omega arith)
            ]
      ]
    ]

-- all of them are
pub filled_all : (whole : List Bool) (from n : ℕ) → length whole ≡ n → from ≡ n
    → ((k : ℕ) → k < from → get_or whole k false ≡ true) → whole ≡ replicate n true
filled_all whole from n size at filled =
    ext_get_or false whole (replicate n true) (size ∙ sym (length-replicate n true))
    (λ k low. filled k (omega arith) ∙ grind (arith, get_or-replicate))

-- each part leaves fewer bits, or was the last
pub fewer_left : (was is : Bool) (n size m left : ℕ) → was ≡ false → is ≡ nat_eq m size → size ≡ n → m ≤ size
    → left ≡ n - (m + 1) → cond is 0 (left + 1) < cond was 0 (n + 1)
fewer_left was is n size m left going last same low count =
    elim (cases_lt m size) [
      | inl more ↦ rw (going, last, other_number m size more) (omega arith)
      | inr all ↦ rw (going, last, same_number m size (omega arith)) (omega arith)
    ]

-- nothing is left behind the last part
pub none_left : (is : Bool) (n size m left : ℕ) → is ≡ nat_eq m size → size ≡ n → left ≡ n - (m + 1) → is ≡ true
    → left ≡ 0
none_left is n size m left last same count ended = grind (arith, nat_tests)

-- what is left ends where it ended
pub ends_there : (n size m from next left all : ℕ) → size ≡ n → m ≤ size → next ≡ from + cond (nat_eq m n) n (m + 1)
    → left ≡ n - (m + 1) → from + n ≡ all → next + left ≡ all
ends_there n size m from next left all same low at count end =
    elim (cases_lt m n) [
      | inl more ↦ let next_is : next ≡ from + (m + 1) = rw (other_number m n more) at at in omega arith
      | inr past ↦ let next_is : next ≡ from + n = rw (same_number m n (omega arith)) at at in omega arith
    ]
