-- The law of the array without a bit set: `no_bits`, `zero_list` of its list, `zero_memory` of all its words.
use Rattle.std.proofs.Common.{◌≡◌, ℕ, ◌+◌, ◌*◌, ◌/◌, ◌%◌, ◌<◌, ◌≤◌, false, List, length, replicate, min, get_or}
use Rattle.std.proofs.Common.{ap, sym, ◌∙◌, ◌==◌, arith, refl}
use Rattle.std.proofs.lemmas.List.{ext_get_or, get_or-replicate, length-replicate}
use Rattle.std.proofs.lemmas.Nat.Bits.{bit_at-zero}
use Rattle.std.proofs.lemmas.Nat.{div_below}
use Rattle.bit_addressing_memory.specs.Memory.{Reading, entry, memory, reading_in}
use Rattle.bit_addressing_memory.proofs.EntryLemmas.{entry_read_place}
use Rattle.bit_addressing_memory.proofs.MemoryLemmas.{entry_memory, length-memory}
use Rattle.bit_addressing_memory.proofs.WindowLemmas.{length-window, window_is}
use Rattle.bit_addressing_memory.specs.Bits.{digit_at}
use Rattle.bit_slice_views.specs.SpanLimits.{MAX_BITS}
use Rattle.bit_containers_array.specs.Array.{first_bits}
use Rattle.bit_containers_array.specs.ArrayLaws.{first_fits}

here_0 : (k : ℕ) → 0 + k ≡ k
here_0 k = omega arith

-- no entry of words whose number is 0 is set
zero_entry : {R : Type 0} (bits : ℕ) (number : R → ℕ) (at : ℕ → ℕ) (words : List R) (n : ℕ) (zero_word : R)
    → 8 ≤ bits → words ≡ replicate n zero_word → number zero_word ≡ 0 → (k : ℕ) → k < length words * bits
    → entry (reading_in bits number at) words k ≡ false
zero_entry {R} bits number at words n zero_word least is none k within =
    let reading : Reading R = reading_in bits number at in
    let some : 0 < bits = omega (arith, least) in
    let long : length words ≡ n = ap length is ∙ length-replicate n zero_word in
    let word : k / bits < length words = div_below k bits (length words) some within in
    let here : zero_word ≡ get_or words (k / bits) zero_word =
    sym (ap (λ ws. get_or ws (k / bits) zero_word) is
    ∙ get_or-replicate n (k / bits) zero_word zero_word (omega arith)) in
    sym (entry_read_place reading words k (k / bits) (k % bits) zero_word some within refl refl here)
    ∙ ap (λ x. digit_at x (at (k % bits))) none
    ∙ ap (λ d. d == 1) (bit_at-zero (at (k % bits)))

-- words whose number is 0 have bits that are all 0
pub no_bits : {R : Type 0} (bits : ℕ) (number : R → ℕ) (at : ℕ → ℕ) (words : List R) (n : ℕ) (zero_word : R) → 8 ≤ bits
    → words ≡ replicate n zero_word → number zero_word ≡ 0
    → first_bits (reading_in bits number at) words
    ≡ replicate (length (first_bits (reading_in bits number at) words)) false
no_bits {R} bits number at words n zero_word least is none =
    let reading : Reading R = reading_in bits number at in
    let some : 0 < bits = omega (arith, least) in
    let m = min (length words * bits) MAX_BITS in
    let fits = first_fits reading words in
    let size : length (first_bits reading words) ≡ m = length-window reading words 0 m fits in
    window_is reading words 0 m (replicate (length (first_bits reading words)) false) some fits
    (length-replicate (length (first_bits reading words)) false ∙ size) (λ k low.
    ap (entry reading words) (here_0 k)
    ∙ zero_entry bits number at words n zero_word least is none k (omega (arith, fits))
    ∙ sym (get_or-replicate (length (first_bits reading words)) k false false (omega arith)))

-- and all bits of these words, where they are more than a list can have
pub zero_memory : {R : Type 0} (bits : ℕ) (number : R → ℕ) (at : ℕ → ℕ) (words : List R) (n : ℕ) (zero_word : R)
    → 8 ≤ bits → words ≡ replicate n zero_word → number zero_word ≡ 0
    → memory (reading_in bits number at) words ≡ replicate (n * bits) false
zero_memory {R} bits number at words n zero_word least is none =
    let reading : Reading R = reading_in bits number at in
    let some : 0 < bits = omega (arith, least) in
    let long : length words * bits ≡ n * bits = ap (λ k. k * bits) (ap length is ∙ length-replicate n zero_word) in
    let size : length (memory reading words) ≡ n * bits = length-memory reading words ∙ long in
    ext_get_or false (memory reading words) (replicate (n * bits) false)
    (size ∙ sym (length-replicate (n * bits) false)) (λ k low.
    entry_memory reading words k some
    ∙ zero_entry bits number at words n zero_word least is none k (omega (arith, size, long))
    ∙ sym (get_or-replicate (n * bits) k false false (omega (arith, size))))

-- and so many as the words have
pub zero_list : {R : Type 0} (bits : ℕ) (number : R → ℕ) (at : ℕ → ℕ) (words : List R) (n : ℕ) (zero_word : R)
    → 8 ≤ bits
    → words ≡ replicate n zero_word → number zero_word ≡ 0
    → first_bits (reading_in bits number at) words ≡ replicate (min (n * bits) MAX_BITS) false
zero_list {R} bits number at words n zero_word least is none =
    let reading : Reading R = reading_in bits number at in
    let m = min (length words * bits) MAX_BITS in
    no_bits bits number at words n zero_word least is none
    ∙ ap (λ k. replicate k false) (length-window reading words 0 m (first_fits reading words))
    ∙ ap (λ k. replicate (min (k * bits) MAX_BITS) false) (ap length is ∙ length-replicate n zero_word)
