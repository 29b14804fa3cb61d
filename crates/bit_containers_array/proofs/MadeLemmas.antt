-- Words over whose first bits a list was copied.
use Rattle.std.proofs.Common.{◌≡◌, ℕ, ◌+◌, ◌-◌, ◌*◌, ◌++◌, Bool, false, List, length, drop, replicate, min}
use Rattle.std.proofs.Common.{ap, ap₂, sym, ◌∙◌, arith}
use Rattle.std.proofs.lemmas.List.{drop-replicate, take-append-drop}
use Rattle.bit_addressing_memory.specs.Memory.{Reading, memory, piece}
use Rattle.bit_addressing_memory.proofs.WindowLemmas.{length-window}
use Rattle.bit_slice_views_mut.specs.Frame.{frame_of}
use Rattle.bit_slice_views.specs.SpanLimits.{MAX_BITS}
use Rattle.bit_containers_array.specs.Array.{first_bits}
use Rattle.bit_containers_array.specs.ArrayLaws.{first_fits, first_window}

-- the first bits of a list, and those behind them
front_behind : (xs ys : List Bool) (n : ℕ) → xs ≡ piece ys 0 n → ys ≡ xs ++ drop (0 + n) ys
unfolding piece
front_behind xs ys n is =
    let here : 0 + n ≡ n = omega arith in
    sym (ap (λ k. xs ++ drop k ys) here ∙ ap (λ zs. zs ++ drop n ys) is ∙ take-append-drop n ys)

-- words that were zeros, and of which all but the first bits stayed, are these bits with zeros behind
pub made_words : {X R : Type 0} (reading : Reading R) (lender : X) (was now : List R) (xs : List Bool) (n : ℕ)
    → memory reading was ≡ replicate n false → first_bits reading now ≡ xs
    → frame_of reading lender now 0 (length (first_bits reading now))
    ≡ frame_of reading lender was 0 (length (first_bits reading was))
    → memory reading now ≡ xs ++ replicate (n - length xs) false
made_words reading lender was now xs n zeros is same =
    let count : length now ≡ length was = ap (λ f. f.words) same in
    let size : length (first_bits reading now) ≡ length (first_bits reading was) =
    length-window reading now 0 (min (length now * reading.bits) MAX_BITS) (first_fits reading now)
    ∙ ap (λ k. min (k * reading.bits) MAX_BITS) count
    ∙ sym (length-window reading was 0 (min (length was * reading.bits) MAX_BITS) (first_fits reading was)) in
    let upto : 0 + length (first_bits reading was) ≡ length xs = omega (arith, size, ap length is) in
    front_behind (first_bits reading now) (memory reading now) (length (first_bits reading now))
    (first_window reading now)
    ∙ ap₂ (λ ys zs. ys ++ zs) is
    (ap (λ f. f.behind) same ∙ ap₂ (λ k ys. drop k ys) upto zeros ∙ drop-replicate (length xs) n false)
