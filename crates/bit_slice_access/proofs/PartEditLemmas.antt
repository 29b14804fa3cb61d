-- What a change of a part of a window makes of the window's list.
--
-- A part written over: `window_part`. Two parts exchanged: `window_exchanged`.
use Rattle.std.proofs.Common.{◌≡◌, inl, inr, ℕ, ◌+◌, ◌-◌, ◌*◌, ◌<◌, ◌≤◌, Bool, false, List, length}
use Rattle.std.proofs.Common.{get_or, arith, ap, sym, ◌∙◌}
use Rattle.std.proofs.lemmas.Bool.{cases_lt}
use Rattle.std.proofs.lemmas.List.{places}
use Rattle.bit_addressing_memory.specs.Memory.{Reading, entry, memory, piece, with_piece, Overwrites, Swaps}
use Rattle.bit_addressing_memory.proofs.WindowLemmas.{length-window, window_bit, window_is, window_overwritten}

-- a part overwritten is that part, as it is now, written over
pub window_part : {R : Type 0} (reading : Reading R) (before after : List R) (place n p i m : ℕ) (now : ℕ → Bool)
    → 0 < reading.bits → place + n ≤ length before * reading.bits → p ≡ place + i → i + m ≤ n
    → Overwrites reading before after p m now
    → piece (memory reading after) place n
    ≡ with_piece (piece (memory reading before) place n) i (piece (memory reading after) p m)
window_part reading before after place n p i m now some fits at inside is =
    let still : p + m ≤ length after * reading.bits = rw is.words (omega arith) in
    window_overwritten reading before after place n p i m now (piece (memory reading after) p m) some fits at inside
    (length-window reading after p m still)
    (λ k small. sym (window_bit reading after p m k some small ∙ is.there k small)) is

-- the n elements from a on and the n from b on exchanged
abbrev exchanged : List Bool → ℕ → ℕ → ℕ → List Bool
exchanged xs a b n = with_piece (with_piece xs a (piece xs b n)) b (piece xs a n)

module _ (xs : List Bool) (a b n k : ℕ) (apart : a + n ≤ b) (inside : b + n ≤ length xs) where
  length-exchanged : length (exchanged xs a b n) ≡ length xs
  unfolding piece with_piece
  length-exchanged = grind (arith, places)

  exchanged_first : k < n → get_or (exchanged xs a b n) (a + k) false ≡ get_or xs (b + k) false
  unfolding piece with_piece
  exchanged_first low = grind (arith, places)

  exchanged_second : k < n → get_or (exchanged xs a b n) (b + k) false ≡ get_or xs (a + k) false
  unfolding piece with_piece
  exchanged_second low = grind (arith, places)

  exchanged_other : (a ≤ k → a + n ≤ k) → (b ≤ k → b + n ≤ k) → get_or (exchanged xs a b n) k false ≡ get_or xs k false
  unfolding piece with_piece
  exchanged_other first second = elim (cases_lt k a) [
    | inl low ↦ grind (arith, places)
    | inr high ↦ elim (cases_lt k b) [
      | inl mid ↦ let past = first high in grind (arith, places)
      | inr top ↦ let past = second top in grind (arith, places)
    ]
  ]

-- two parts exchanged
pub window_exchanged : {R : Type 0} (reading : Reading R) (before after : List R) (place n i j m : ℕ)
    → 0 < reading.bits → place + n ≤ length before * reading.bits → i + m ≤ j → j + m ≤ n
    → Swaps reading before after (place + i) (place + j) m
    → piece (memory reading after) place n ≡ exchanged (piece (memory reading before) place n) i j m
window_exchanged reading before after place n i j m some fits apart inside is =
    let xs = piece (memory reading before) place n in
    let size : length xs ≡ n = length-window reading before place n fits in
    let still : place + n ≤ length after * reading.bits = rw is.words fits in
    let in_xs : j + m ≤ length xs = omega arith in
    let other = λ (k : ℕ) (low : k < n) (first : i ≤ k → i + m ≤ k) (second : j ≤ k → j + m ≤ k).
    is.others (place + k) (λ h. omega (arith, first (omega arith))) (λ h. omega (arith, second (omega arith)))
    ∙ sym (window_bit reading before place n k some low)
    ∙ sym (exchanged_other xs i j m k apart in_xs first second) in
    window_is reading after place n (exchanged xs i j m) some still (length-exchanged xs i j m 0 apart in_xs ∙ size)
    (λ k low. elim (cases_lt k i) [
      | inl early ↦ other k low (λ h. omega arith) (λ h. omega arith)
      | inr past_i ↦ elim (cases_lt k (i + m)) [
        | inl first ↦
            let d : ℕ = k - i in
            let is_k : k ≡ i + d = omega arith in
            let here : place + k ≡ place + i + d = omega arith in
            let there : place + j + d ≡ place + (j + d) = omega arith in
            ap (entry reading after) here
            ∙ is.to_first d (omega arith)
            ∙ ap (entry reading before) there
            ∙ sym (window_bit reading before place n (j + d) some (omega arith))
            ∙ sym (exchanged_first xs i j m d apart in_xs (omega arith))
            ∙ ap (λ q. get_or (exchanged xs i j m) q false) (sym is_k)
        | inr past_first ↦ elim (cases_lt k j) [
          | inl mid ↦ other k low (λ h. past_first) (λ h. omega arith)
          | inr past_j ↦ elim (cases_lt k (j + m)) [
            | inl second ↦
                let d : ℕ = k - j in
                let is_k : k ≡ j + d = omega arith in
                let here : place + k ≡ place + j + d = omega arith in
                let there : place + i + d ≡ place + (i + d) = omega arith in
                ap (entry reading after) here
                ∙ is.to_second d (omega arith)
                ∙ ap (entry reading before) there
                ∙ sym (window_bit reading before place n (i + d) some (omega arith))
                ∙ sym (exchanged_second xs i j m d apart in_xs (omega arith))
                ∙ ap (λ q. get_or (exchanged xs i j m) q false) (sym is_k)
            | inr late ↦ other k low (λ h. past_first) (λ h. late)
          ]
        ]
      ]
    ])
