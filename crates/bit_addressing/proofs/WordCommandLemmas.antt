-- What the commands at one word of a span do to the span's list.
--
-- No write: `carried_load`. A write of its bits: `carried_edit`.
use Rattle.std.proofs.Common.{◌≡◌, ◌≢◌, ℕ, ◌+◌, ◌-◌, ◌*◌, ◌/◌, ◌%◌, ◌<◌, ◌≤◌, Bool, false, List}
use Rattle.std.proofs.Common.{length, map, get_or, ltb, refl, sym, ap, ◌∙◌, inl, inr, arith}
use Rattle.std.proofs.lemmas.Bool.{cases_lt}
use Rattle.std.proofs.lemmas.Bool.Decides.{nat_tests}
use Rattle.std.proofs.lemmas.List.{ext_get_or, get_or_past}
use Rattle.std.proofs.lemmas.List.FromFn.{length-map-range_with_len, get_or-map-range_with_len}
use Rattle.std.proofs.lemmas.Nat.{div-add-mod', div-mul-add, mod-mul-add}
use Rattle.std.specs.List.{range_with_len}
use Rattle.bit_addressing_memory.specs.Memory.{Reading, entry, digits, touched, with_piece, Overwrites}
use Rattle.bit_addressing_memory.proofs.MemoryLemmas.{length-with_piece, with_piece_above, with_piece_below}
use Rattle.bit_addressing_memory.proofs.MemoryLemmas.{with_piece_inside}
use Rattle.bit_addressing_memory.proofs.WindowLemmas.{window_overwritten}
use Rattle.bit_addressing_span.specs.Parts.{part_count, part_from, part_place, part_upto}
use Rattle.bit_addressing_memory.specs.Partial.{ReadsPart}
use Rattle.bit_addressing_span.specs.Span.{Extent, span_bits, span_place, FitsIn}
use Rattle.bit_addressing_memory.proofs.PartsLemmas.{part_some, part_start}
use Rattle.bit_addressing.specs.Own.{lies_in, own_digit, own_edit, own_reading, own_word, over_word}
use Rattle.bit_addressing.specs.Runs.{CarriesOut}
use Rattle.bit_addressing.specs.declared.command.SpanCommand.{SpanCommand}
use Rattle.bit_addressing.specs.declared.command.SpanCommand.TheVariants.{Load, Store, Set, Clear, Invert}
use Rattle.bit_addressing.specs.declared.command.SpanReply.TheVariants.{Word}
use Rattle.bit_addressing.specs.declared.one_command.WordEdit.{WordEdit}
use Rattle.bit_addressing.specs.declared.one_command.WordEdit.TheVariants.{Value, Ones, Zeros, Inverted}
use Rattle.bit_addressing.specs.WordEdits.{bit_after, word_command}
use Rattle.bit_addressing.proofs.CommandLemmas.{carried, length-span_bits, span_bit, span_within}

-- ---- the word that is answered

digit_reads : {R : Type 0} (reading : Reading R) (words : List R) (span : Extent) (k : ℕ) (word : R) (i : ℕ)
    → span.head < reading.bits → FitsIn reading.bits span (length words)
    → ReadsPart reading words (span.word + k) word (part_from reading.bits span k) (part_upto reading.bits span k)
    → i < reading.bits
    → reading.digit word i ≡ own_digit reading.bits span.head (span_bits reading words span) k i
unfolding own_digit
digit_reads reading words span k word i low fits reads small =
    let bits = span_bits reading words span in
    let size : length bits ≡ span.len = length-span_bits reading words span low fits in
    let j : ℕ = k * reading.bits + i - span.head in
    elim (cases_lt (k * reading.bits + i) span.head) [
      | inl before ↦ reads.below i (omega arith) small ∙ grind (arith, nat_tests)
      | inr from ↦ elim (cases_lt j span.len) [
        | inl inside ↦
            let place : (span.word + k) * reading.bits + i ≡ span_place reading.bits span + j = omega arith in
            reads.inside i (omega arith) (omega arith) small
            ∙ ap (entry reading words) place
            ∙ sym (span_bit reading words span j (omega arith) inside)
            ∙ grind (arith, nat_tests)
        | inr past ↦
            reads.above i (omega arith) small
            ∙ sym (get_or_past bits j false (omega arith))
            ∙ grind (arith, nat_tests)
      ]
    ]

-- two functions with equal values below n
same_below : (f g : ℕ → Bool) (n : ℕ) → ((i : ℕ) → i < n → f i ≡ g i)
    → map f (range_with_len 0 n) ≡ map g (range_with_len 0 n)
same_below f g n same =
    let size = length-map-range_with_len f 0 n in
    ext_get_or false (map f (range_with_len 0 n)) (map g (range_with_len 0 n))
    (size ∙ sym (length-map-range_with_len g 0 n))
    (λ i h.
    let small : i < n = omega (arith, size) in
    get_or-map-range_with_len f 0 n i i false small (omega arith)
    ∙ same i small
    ∙ sym (get_or-map-range_with_len g 0 n i i false small (omega arith)))

-- a word of the span that was read has the digits of the list's word
own_word_reads : {R : Type 0} (reading : Reading R) (words : List R) (span : Extent) (k : ℕ) (word : R)
    → span.head < reading.bits → FitsIn reading.bits span (length words)
    → ReadsPart reading words (span.word + k) word (part_from reading.bits span k) (part_upto reading.bits span k)
    → digits reading word ≡ own_word reading.bits span.head (span_bits reading words span) k
own_word_reads reading words span k word low fits reads =
    same_below (reading.digit word) (own_digit reading.bits span.head (span_bits reading words span) k) reading.bits
    (λ i h. digit_reads reading words span k word i low fits reads h)

-- a word read, and nothing written
pub carried_load : {R : Type 0} (reading : Reading R) (words : List R) (span : Extent) (k : ℕ) (word : R)
    → span.head < reading.bits → FitsIn reading.bits span (length words) → k < touched reading.bits span.head span.len
    → ReadsPart reading words (span.word + k) word (part_from reading.bits span k) (part_upto reading.bits span k)
    → CarriesOut reading words words span (Load k) (Word word)
carried_load reading words span k word low fits within reads =
    carried reading words words span (Load k) (Word word) low fits (grind (arith, nat_tests))
    (ap Word (own_word_reads reading words span k word low fits reads)) refl (λ p _. refl) refl

-- ---- a write of its bits

-- a list with its part in word k written over, whose first bit has the index `from` there, is the list with each bit of
-- that word made `now`
over_piece : (b head k : ℕ) (now : ℕ → Bool → Bool) (bits ys : List Bool) (i from m : ℕ) → 0 < b
    → length ys ≡ m → head + i ≡ k * b + from → from + m ≤ b → i + m ≤ length bits → (0 < i → from ≡ 0)
    → (i + m < length bits → from + m ≡ b)
    → ((q : ℕ) → q < m → get_or ys q false ≡ now (from + q) (get_or bits (i + q) false))
    → with_piece bits i ys ≡ over_word b head k now bits
unfolding over_word
over_piece b head k now bits ys i from m some count at short inside first last same =
    let within : i + length ys ≤ length bits = omega arith in
    let size = length-with_piece bits i ys within in
    ext_get_or false (with_piece bits i ys) (over_word b head k now bits)
    (size ∙ sym (length-map-range_with_len _ 0 (length bits))) (λ j h.
    let small : j < length bits = omega arith in
    let value = get_or-map-range_with_len _ 0 (length bits) j j false small (omega arith) in
    let place = div-add-mod' (head + j) b in
    elim (cases_lt j i) [
      | inl early ↦
          let other : (head + j) / b ≢ k = λ e. absurd (omega (arith, rw e at place)) in
          with_piece_below bits i ys j false within early ∙ sym (value ∙ grind (arith, nat_tests))
      | inr late ↦ elim (cases_lt j (i + m)) [
        | inl here ↦
            let q : ℕ = j - i in
            let few : from + q < b = omega arith in
            let is : head + j ≡ k * b + (from + q) = omega arith in
            let row : (head + j) / b ≡ k = ap (λ p. p / b) is ∙ div-mul-add k b (from + q) few in
            let index : (head + j) % b ≡ from + q = ap (λ p. p % b) is ∙ mod-mul-add k b (from + q) few in
            let old : i + q ≡ j = omega arith in
            with_piece_inside bits i ys j q false within (sym old) (omega arith)
            ∙ same q (omega arith)
            ∙ sym (value ∙ rw (row, index, old) (grind (arith, nat_tests)))
        | inr past ↦
            let other : (head + j) / b ≢ k = λ e. absurd (omega (arith, rw e at place)) in
            with_piece_above bits i ys j false within (omega arith) ∙ sym (value ∙ grind (arith, nat_tests))
      ]
    ])

-- a word read and written: each bit of the word of the list made `now` of its index and what it was
carried_word : {R : Type 0} (reading : Reading R) (before after : List R) (span : Extent)
    (command : SpanCommand R) (k : ℕ) (word : R) (now : ℕ → Bool → Bool)
    → span.head < reading.bits → FitsIn reading.bits span (length before) → k < touched reading.bits span.head span.len
    → lies_in reading.bits span.head span.len command ≡ ltb k (touched reading.bits span.head span.len)
    → own_edit reading span.head command (span_bits reading before span)
    ≡ over_word reading.bits span.head k now (span_bits reading before span)
    → own_reading reading.bits span.head command (span_bits reading before span)
    ≡ Word (own_word reading.bits span.head (span_bits reading before span) k)
    → ReadsPart reading before (span.word + k) word (part_from reading.bits span k) (part_upto reading.bits span k)
    → Overwrites reading before after (part_place reading.bits span k) (part_count reading.bits span k)
    (λ i. now (part_from reading.bits span k + i) (entry reading before (part_place reading.bits span k + i)))
    → CarriesOut reading before after span command (Word word)
carried_word reading before after span command k word now low fits within range edit answered reads writes =
    let b : ℕ = reading.bits in
    let some : 0 < b = omega arith in
    let bits = span_bits reading before span in
    let size : length bits ≡ span.len = length-span_bits reading before span low fits in
    let has : 0 < span.len = part_some b span.head span.len k within in
    let start : k * b < span.head + span.len = part_start b span.head span.len k within some in
    let from : ℕ = part_from b span k in
    let m : ℕ = part_count b span k in
    let i : ℕ = k * b + from - span.head in
    let new = λ (q : ℕ). now (from + q) (get_or bits (i + q) false) in
    let ys = map new (range_with_len 0 m) in
    let count : length ys ≡ m = length-map-range_with_len new 0 m in
    let at : part_place b span k ≡ span_place b span + i = omega arith in
    let value = λ (q : ℕ) (small : q < m). get_or-map-range_with_len new 0 m q q false small (omega arith) in
    carried reading before after span command (Word word) low fits (range ∙ grind (arith, nat_tests))
    (ap Word (own_word_reads reading before span k word low fits reads) ∙ sym answered)
    (window_overwritten reading before after (span_place b span) span.len (part_place b span k) i m
    (λ q. now (from + q) (entry reading before (part_place b span k + q))) ys some
    (span_within b span (length before) low has fits) at (omega arith) count
    (λ q small.
    let place : part_place b span k + q ≡ span_place b span + (i + q) = omega arith in
    ap (λ p. now (from + q) (entry reading before p)) place
    ∙ ap (now (from + q)) (sym (span_bit reading before span (i + q) some (omega arith)))
    ∙ sym (value q small)) writes
    ∙ over_piece b span.head k now bits ys i from m some count (omega arith) (omega arith) (omega arith) (omega arith)
    (λ more. omega arith) value
    ∙ sym edit)
    (λ p out. elim (cases_lt p (span_place b span)) [
      | inl under ↦ writes.below p (omega arith)
      | inr up ↦ let past : span_place b span + span.len ≤ p = out up in writes.above p (omega arith)
    ])
    writes.words

-- which commands of this kind are in range
pub lies_word : {R : Type 0} (b head n k : ℕ) (edit : WordEdit R)
    → lies_in b head n (word_command k edit) ≡ ltb k (touched b head n)
lies_word b head n k (Value word) = refl
lies_word b head n k Ones = refl
lies_word b head n k Zeros = refl
lies_word b head n k Inverted = refl

-- a command of this kind, carried out
pub carried_edit : {R : Type 0} (reading : Reading R) (before after : List R) (span : Extent) (k : ℕ) (word : R)
    (edit : WordEdit R) → span.head < reading.bits → FitsIn reading.bits span (length before)
    → k < touched reading.bits span.head span.len
    → ReadsPart reading before (span.word + k) word (part_from reading.bits span k) (part_upto reading.bits span k)
    → Overwrites reading before after (part_place reading.bits span k) (part_count reading.bits span k)
    (λ i. bit_after reading edit (part_from reading.bits span k + i)
    (entry reading before (part_place reading.bits span k + i)))
    → CarriesOut reading before after span (word_command k edit) (Word word)
carried_edit reading before after span k word (Value value) low fits within reads writes =
    carried_word reading before after span (Store k value) k word _ low fits within refl refl refl reads writes
carried_edit reading before after span k word Ones low fits within reads writes =
    carried_word reading before after span (Set k) k word _ low fits within refl refl refl reads writes
carried_edit reading before after span k word Zeros low fits within reads writes =
    carried_word reading before after span (Clear k) k word _ low fits within refl refl refl reads writes
carried_edit reading before after span k word Inverted low fits within reads writes =
    carried_word reading before after span (Invert k) k word _ low fits within refl refl refl reads writes
