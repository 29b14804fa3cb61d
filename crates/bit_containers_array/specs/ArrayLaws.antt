-- The laws of the bits of some words: they are the piece of their own length, and lie in the words.
use Rattle.std.proofs.Common.{◌≡◌, ℕ, ◌+◌, ◌*◌, ◌≤◌, List, length, min, ap, sym, ◌∙◌, arith}
use Rattle.bit_addressing_memory.specs.Memory.{Reading, memory, piece}
use Rattle.bit_slice_views.specs.SpanLimits.{MAX_BITS}
use Rattle.bit_addressing_memory.proofs.WindowLemmas.{length-window}
use Rattle.bit_slice_views_mut.specs.FrameLaws.{shown_window, shown_fits}
use Rattle.bit_containers_array.specs.Array.{first_bits}

pub first_fits : {R : Type 0} (reading : Reading R) (words : List R)
    → 0 + min (length words * reading.bits) MAX_BITS ≤ length words * reading.bits
first_fits reading words = omega arith

pub first_window : {R : Type 0} (reading : Reading R) (words : List R)
    → first_bits reading words ≡ piece (memory reading words) 0 (length (first_bits reading words))
first_window reading words =
    shown_window reading words 0 (min (length words * reading.bits) MAX_BITS) (first_fits reading words)

pub first_within : {R : Type 0} (reading : Reading R) (words : List R)
    → 0 + length (first_bits reading words) ≤ length words * reading.bits
first_within reading words =
    shown_fits reading words 0 (min (length words * reading.bits) MAX_BITS) (first_fits reading words)

-- as many words have as many bits
pub first_len : {R : Type 0} (reading : Reading R) (now words was : List R) (n : ℕ) → now ≡ words → length was ≡ n
    → length words ≡ n → length (first_bits reading now) ≡ length (first_bits reading was)
first_len reading now words was n is was_size size =
    let now_count : length now ≡ length was = ap length is ∙ size ∙ sym was_size in
    length-window reading now 0 (min (length now * reading.bits) MAX_BITS) (first_fits reading now)
    ∙ ap (λ k. min (k * reading.bits) MAX_BITS) now_count
    ∙ sym (length-window reading was 0 (min (length was * reading.bits) MAX_BITS) (first_fits reading was))
