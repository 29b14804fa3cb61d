-- What a call that wrote inside a window makes of its list and of its frame.
--
-- What stands beside it stays: `overwritten_beside`, `frame_kept`, and the other way `frame_tells`,
-- `frame_beside`. The list: `window_now`.
use Rattle.std.proofs.Common.{◌≡◌, ℕ, ◌+◌, ◌-◌, ◌*◌, ◌<◌, ◌≤◌, Bool, false, List, length, take, drop, get_or, sym, ap}
use Rattle.std.proofs.Common.{◌∙◌, arith, refl, rules}
use Rattle.std.proofs.lemmas.List.{ext_get_or, get_or-drop, get_or-take, length-take, places}
use Rattle.bit_addressing_memory.specs.Memory.{Reading, memory, piece, Overwrites}
use Rattle.bit_addressing_memory.proofs.MemoryLemmas.{length-memory, entry_memory}
use Rattle.bit_addressing_memory.proofs.WindowLemmas.{length-window, window_written, window_is}
use Rattle.bit_slice_views_mut.specs.Frame.{frame_of, KeepsBeside}

-- equal elements before a place are equal beginnings, and from a place on equal ends
front_same : (xs ys : List Bool) (p : ℕ) → length xs ≡ length ys
    → ((k : ℕ) → k < p → get_or xs k false ≡ get_or ys k false) → take p xs ≡ take p ys
front_same xs ys p size same =
    ext_get_or false (take p xs) (take p ys) (search (rules, places, size)) (λ k h.
    let low : k < p = omega (arith, length-take p xs) in
    let here = same k low in
    grind (arith, places))

back_same : (xs ys : List Bool) (p : ℕ) → length xs ≡ length ys
    → ((k : ℕ) → p ≤ k → get_or xs k false ≡ get_or ys k false) → drop p xs ≡ drop p ys
back_same xs ys p size same =
    ext_get_or false (drop p xs) (drop p ys) (search (rules, places, size)) (λ k h.
    let here = same (p + k) (omega arith) in
    grind (arith, places))

-- what is overwritten inside a window keeps what stands beside it
pub overwritten_beside : {R : Type 0} (reading : Reading R) (before after : List R) (place n p m : ℕ)
    (now : ℕ → Bool) → place ≤ p → p + m ≤ place + n → Overwrites reading before after p m now
    → KeepsBeside reading before after place n
overwritten_beside reading before after place n p m now from upto is = record {
  below = λ k low. is.below k (omega arith);
  above = λ k high. is.above k (omega arith);
  words = is.words;
}

-- and so it keeps the window's frame
pub frame_kept : {X R : Type 0} (reading : Reading R) (lender : X) (before after : List R) (place n : ℕ)
    → 0 < reading.bits → KeepsBeside reading before after place n
    → frame_of reading lender after place n ≡ frame_of reading lender before place n
frame_kept reading lender before after place n some is =
    let size : length (memory reading after) ≡ length (memory reading before) =
    length-memory reading after ∙ ap (λ k. k * reading.bits) is.words ∙ sym (length-memory reading before) in
    let front = front_same (memory reading after) (memory reading before) place size (λ k low.
    entry_memory reading after k some ∙ is.below k low ∙ sym (entry_memory reading before k some)) in
    let back = back_same (memory reading after) (memory reading before) (place + n) size (λ k high.
    entry_memory reading after k some ∙ is.above k high ∙ sym (entry_memory reading before k some)) in
    let count = is.words in
    rw (front, back, count) refl

-- an equal frame tells that what stands beside the window is as it was
pub frame_tells : {X R : Type 0} (reading : Reading R) (lender its : X) (before after : List R) (place n at m : ℕ)
    → 0 < reading.bits → m ≡ n → frame_of reading its after at m ≡ frame_of reading lender before place n
    → KeepsBeside reading before after place n
frame_tells reading lender its before after place n at m some size same =
    let here : at ≡ place = ap (λ f. f.place) same in
    let front : take place (memory reading after) ≡ take place (memory reading before) =
    ap (λ p. take p (memory reading after)) (sym here) ∙ ap (λ f. f.before) same in
    let ends : place + n ≡ at + m = omega arith in
    let back : drop (place + n) (memory reading after) ≡ drop (place + n) (memory reading before) =
    ap (λ p. drop p (memory reading after)) ends ∙ ap (λ f. f.behind) same in
    record {
      below = λ k low.
          sym (entry_memory reading after k some)
          ∙ sym (get_or-take place (memory reading after) k false low)
          ∙ ap (λ xs. get_or xs k false) front
          ∙ get_or-take place (memory reading before) k false low
          ∙ entry_memory reading before k some;
      above = λ k high.
          let past : place + n + (k - (place + n)) ≡ k = omega arith in
          sym (entry_memory reading after k some)
          ∙ ap (λ i. get_or (memory reading after) i false) (sym past)
          ∙ sym (get_or-drop (place + n) (memory reading after) (k - (place + n)) false)
          ∙ ap (λ xs. get_or xs (k - (place + n)) false) back
          ∙ get_or-drop (place + n) (memory reading before) (k - (place + n)) false
          ∙ ap (λ i. get_or (memory reading before) i false) past
          ∙ entry_memory reading before k some;
      words = ap (λ f. f.words) same;
    }

-- the same, said of the words, the place and the length that the window was made with
pub frame_beside : {X R : Type 0} (reading : Reading R) (lender its : X) (before was after : List R)
    (place p at n k m : ℕ) → 0 < reading.bits → was ≡ before → p ≡ place → k ≡ n → m ≡ k
    → frame_of reading its after at m ≡ frame_of reading lender was p k
    → KeepsBeside reading before after place n
frame_beside reading lender its before was after place p at n k m some words here count size same =
    rw (← words, ← here, ← count) (frame_tells reading lender its was after p k at m some size same)

-- a window whose bits are all overwritten is the list of what they became
pub window_now : {R : Type 0} (reading : Reading R) (before after : List R) (place n : ℕ) (now : ℕ → Bool)
    (ys : List Bool) → 0 < reading.bits → place + n ≤ length before * reading.bits → length ys ≡ n
    → ((k : ℕ) → k < n → now k ≡ get_or ys k false) → Overwrites reading before after place n now
    → piece (memory reading after) place n ≡ ys
window_now reading before after place n now ys some fits size same is =
    window_is reading after place n ys some (rw is.words fits) size (λ k low. is.there k low ∙ same k low)

pub ruleset frames = (length-window, window_written, overwritten_beside)
