-- The words of some bits, masked, as the bits and as words of a memory have them.
--
-- From words to bits: `masked_bits`. From bits to the words of a window: `masked_words`. One word, read in the words of
-- one memory, as a word of another that has the same bits: `reads_through`.
use Rattle.std.proofs.Common.{◌≡◌, ℕ, ◌+◌, ◌-◌, ◌*◌, ◌/◌, ◌%◌, ◌<◌, ◌≤◌, Bool, false, List, ◌++◌, length, get_or}
use Rattle.std.proofs.Common.{replicate, drop, sym, ap, ◌∙◌, inl, inr, arith}
use Rattle.std.proofs.Math.Nat.{div-eq_of_lt, mod-eq_of_lt, mod-lt}
use Rattle.std.proofs.lemmas.Bool.{cases_lt}
use Rattle.std.proofs.lemmas.List.{get_or_append_left, get_or-append_right, get_or-replicate, get_or_past}
use Rattle.std.proofs.lemmas.List.{length-replicate, length-take}
use Rattle.std.proofs.lemmas.Nat.{div-add-mod'}
use Rattle.bit_addressing_memory.specs.Memory.{Reading, entry, memory, piece}
use Rattle.bit_addressing_memory.proofs.WindowLemmas.{window_bit}
use Rattle.bit_addressing_span.specs.Parts.{AreMasked}
use Rattle.bit_addressing_span.specs.Span.{extent}
use Rattle.bit_slice_access.specs.Domain.{window_span, ReadsWord}
use Rattle.bit_slice_access.specs.Masked.{AreMaskedBits}

-- bits behind zeros: before them a zero, and then the bits
padded_below : (bits : List Bool) (start p : ℕ) → p < start → get_or (replicate start false ++ bits) p false ≡ false
padded_below bits start p low =
    get_or_append_left (replicate start false) bits false p (omega (arith, length-replicate start false))
    ∙ get_or-replicate start p false false low

padded_above : (bits : List Bool) (start p : ℕ) → start ≤ p
    → get_or (replicate start false ++ bits) p false ≡ get_or bits (p - start) false
padded_above bits start p high =
    get_or-append_right (replicate start false) bits start p false (length-replicate start false) high

-- a piece has at most as many elements as it asks for
piece_short : (xs : List Bool) (p n : ℕ) → length (piece xs p n) ≤ n
unfolding piece
piece_short xs p n = omega (arith, length-take n (drop p xs))

-- the words of a memory, masked, by the bits alone
pub masked_bits : {R : Type 0} (reading : Reading R) (at : ℕ → ℕ) (words : List R) (head n : ℕ) (bits : List Bool)
    (numbers : List ℕ) → 0 < reading.bits → bits ≡ piece (memory reading words) head n
    → AreMasked reading at words (extent 0 head (length bits)) numbers
    → AreMaskedBits reading.bits at head bits numbers
masked_bits reading at words head n bits numbers some is masked = λ k i low small.
    let b = reading.bits in
    let p : ℕ = k * b + i in
    let here : (0 + k) * b + i ≡ p = omega arith in
    let short : length bits ≤ n = rw is (piece_short (memory reading words) head n) in
    let reads = masked k low in
    elim (cases_lt p head) [
      | inl before ↦ reads.below i (omega arith) small ∙ sym (padded_below bits head p before)
      | inr from ↦ elim (cases_lt p (head + length bits)) [
        | inl inside ↦
            let there : head + (p - head) ≡ (0 + k) * b + i = omega arith in
            let shown : get_or (piece (memory reading words) head n) (p - head) false
            ≡ entry reading words (head + (p - head)) =
            window_bit reading words head n (p - head) some (omega arith) in
            reads.inside i (omega arith) (omega arith) small
            ∙ ap (entry reading words) (sym there) ∙ sym shown ∙ ap (λ xs. get_or xs (p - head) false) (sym is)
            ∙ sym (padded_above bits head p from)
        | inr past ↦
            reads.above i (omega arith) small
            ∙ sym (padded_above bits head p from ∙ get_or_past bits (p - head) false (omega arith))
      ]
    ]

-- and back: the words of a window, masked, where the bits are
pub masked_words : {R : Type 0} (reading : Reading R) (at : ℕ → ℕ) (words : List R) (place n : ℕ) (bits : List Bool)
    (numbers : List ℕ) → 0 < reading.bits → bits ≡ piece (memory reading words) place n → length bits ≡ n
    → AreMaskedBits reading.bits at (place % reading.bits) bits numbers
    → AreMasked reading at words (window_span reading.bits place (length bits)) numbers
masked_words reading at words place n bits numbers some is many masked = λ k low.
    let b = reading.bits in
    let h : ℕ = place % b in
    let whole : place / b * b + h ≡ place = div-add-mod' place b in
    let sum : (place / b + k) * b ≡ place / b * b + k * b = omega arith in
    record {
      inside = λ i from upto small.
          let p : ℕ = k * b + i in
          let there : place + (p - h) ≡ (place / b + k) * b + i = omega arith in
          masked k i low small ∙ padded_above bits h p (omega arith) ∙ ap (λ xs. get_or xs (p - h) false) is
          ∙ window_bit reading words place n (p - h) some (omega arith) ∙ ap (entry reading words) there;
      below = λ i before small. masked k i low small ∙ padded_below bits h (k * b + i) (omega arith);
      above = λ i past small.
          let p : ℕ = k * b + i in
          masked k i low small ∙ padded_above bits h p (omega arith)
          ∙ get_or_past bits (p - h) false (omega arith);
    }

-- a word of a window, read in other words that have the window's bits
pub reads_through : {R : Type 0} (reading : Reading R) (seen words : List R) (head place n k : ℕ) (word : R)
    → 0 < reading.bits → head ≡ place % reading.bits
    → piece (memory reading seen) head n ≡ piece (memory reading words) place n
    → ReadsWord reading seen (window_span reading.bits head n) k word
    → ReadsWord reading words (window_span reading.bits place n) k word
reads_through reading seen words head place n k word some is same reads =
    let b = reading.bits in
    let h : ℕ = place % b in
    let low : h < b = mod-lt place some in
    let none : head / b ≡ 0 = rw is (div-eq_of_lt low) in
    let rest : head % b ≡ h = rw is (mod-eq_of_lt low) in
    let whole : place / b * b + h ≡ place = div-add-mod' place b in
    let sum : (place / b + k) * b ≡ place / b * b + k * b = omega arith in
    let nought : 0 * b ≡ 0 = omega arith in
    let zeros : head / b * b ≡ 0 = ap (λ q. q * b) none ∙ nought in
    let first : (head / b + k) * b ≡ head / b * b + k * b = omega arith in
    record {
      inside = λ i from upto small.
          let p : ℕ = k * b + i in
          let here : (head / b + k) * b + i ≡ head + (p - h) = omega arith in
          let there : place + (p - h) ≡ (place / b + k) * b + i = omega arith in
          reads.inside i (omega arith) (omega arith) small ∙ ap (entry reading seen) here
          ∙ sym (window_bit reading seen head n (p - h) some (omega arith)) ∙ ap (λ xs. get_or xs (p - h) false) same
          ∙ window_bit reading words place n (p - h) some (omega arith) ∙ ap (entry reading words) there;
      below = λ i before small. reads.below i (omega arith) small;
      above = λ i past small. reads.above i (omega arith) small;
    }
