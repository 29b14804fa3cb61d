-- What the commands at one bit, or at a stretch of bits, do to a span's list: a window of the memory is edited.
--
-- One bit: `carried_read`, `carried_replace`. Two: `carried_swap`. Many: `carried_copy`, `carried_nothing`, `copy_out`.
use Rattle.std.proofs.Common.{◌≡◌, ◌≢◌, ◌⊎◌, ℕ, ◌+◌, ◌<◌, ◌≤◌, Bool, false, leb, ◌&&◌, List, [], length, take, get_or}
use Rattle.std.proofs.Common.{refl, sym, ap, ◌∙◌, inl, inr, arith}
use Rattle.std.proofs.lemmas.Bool.{cases_lt}
use Rattle.std.proofs.lemmas.Bool.Decides.{nat_tests}
use Rattle.std.proofs.lemmas.List.{append-nil, take-append-drop}
use Rattle.bit_addressing_memory.specs.Memory.{Reading, entry, piece, with_piece, Writes, Copies, Swaps}
use Rattle.bit_addressing_memory.proofs.MemoryLemmas.{piece_none}
use Rattle.bit_addressing_memory.proofs.OverwriteLemmas.{written_others}
use Rattle.bit_addressing_memory.proofs.WindowLemmas.{window_written, window_copied, window_swapped}
use Rattle.bit_addressing_span.specs.Span.{Extent, FitsIn, span_bits, span_place}
use Rattle.bit_addressing.specs.Runs.{CarriesOut, IsOutside}
use Rattle.bit_addressing.specs.declared.command.SpanCommand.TheVariants.{Read, Replace, Swap, Copy}
use Rattle.bit_addressing.specs.declared.command.SpanReply.TheVariants.{Bit, Done}
use Rattle.bit_addressing.proofs.CommandLemmas.{carried, span_bit, span_within}

-- the place of a bit of the span is not outside it
apart : (b : ℕ) (span : Extent) (i p q : ℕ) → i < span.len → p ≡ span_place b span + i → IsOutside b span q → q ≢ p
apart b span i p q small place out e =
    let after : span_place b span + span.len ≤ q = out (omega arith) in
    omega arith

pub carried_read : {R : Type 0} (reading : Reading R) (words : List R) (span : Extent) (i p : ℕ) (bit : Bool)
    → span.head < reading.bits → FitsIn reading.bits span (length words) → i < span.len
    → p ≡ span_place reading.bits span + i → bit ≡ entry reading words p
    → CarriesOut reading words words span (Read i) (Bit bit)
carried_read reading words span i p bit low fits small place is =
    let some : 0 < reading.bits = omega arith in
    let value : bit ≡ get_or (span_bits reading words span) i false =
    is ∙ ap (entry reading words) place ∙ sym (span_bit reading words span i some small) in
    carried reading words words span (Read i) (Bit bit) low fits (grind (arith, nat_tests)) (ap Bit value) refl
    (λ p _. refl) refl

pub carried_replace : {R : Type 0} (reading : Reading R) (before after : List R) (span : Extent) (i p : ℕ)
    (bit was : Bool) → span.head < reading.bits → FitsIn reading.bits span (length before) → i < span.len
    → p ≡ span_place reading.bits span + i → was ≡ entry reading before p → Writes reading before after p bit
    → CarriesOut reading before after span (Replace i bit) (Bit was)
carried_replace reading before after span i p bit was low fits small place is writes =
    let some : 0 < reading.bits = omega arith in
    let within = span_within reading.bits span (length before) low (omega arith) fits in
    let value : was ≡ get_or (span_bits reading before span) i false =
    is ∙ ap (entry reading before) place ∙ sym (span_bit reading before span i some small) in
    carried reading before after span (Replace i bit) (Bit was) low fits (grind (arith, nat_tests)) (ap Bit value)
    (window_written reading before after (span_place reading.bits span) span.len p i bit some within place small writes)
    (λ q out. written_others writes q (λ e. apart reading.bits span i p q small place out e))
    writes.words

pub carried_swap : {R : Type 0} (reading : Reading R) (before after : List R) (span : Extent) (i j p q : ℕ)
    → span.head < reading.bits → FitsIn reading.bits span (length before) → i < span.len → j < span.len
    → p ≡ span_place reading.bits span + i → q ≡ span_place reading.bits span + j → Swaps reading before after p q 1
    → CarriesOut reading before after span (Swap i j) Done
carried_swap reading before after span i j p q low fits small_i small_j is_p is_q swaps =
    let some : 0 < reading.bits = omega arith in
    let within = span_within reading.bits span (length before) low (omega arith) fits in
    carried reading before after span (Swap i j) Done low fits (grind (arith, nat_tests)) refl
    (window_swapped reading before after (span_place reading.bits span) span.len p q i j some within is_p is_q small_i
    small_j swaps)
    (λ m out.
    let not_p = apart reading.bits span i p m small_i is_p out in
    let not_q = apart reading.bits span j q m small_j is_q out in
    swaps.others m (λ up. omega arith) (λ up. omega arith))
    swaps.words

pub carried_copy : {R : Type 0} (reading : Reading R) (before after : List R) (span : Extent)
    (from to count p q : ℕ) → span.head < reading.bits → FitsIn reading.bits span (length before) → 0 < span.len
    → from + count ≤ span.len → to + count ≤ span.len → p ≡ span_place reading.bits span + from
    → q ≡ span_place reading.bits span + to → Copies reading before after reading before p q count
    → CarriesOut reading before after span (Copy from to count) Done
carried_copy reading before after span from to count p q low fits some_bits from_in to_in is_p is_q copies =
    let some : 0 < reading.bits = omega arith in
    let within = span_within reading.bits span (length before) low some_bits fits in
    carried reading before after span (Copy from to count) Done low fits (grind (arith, nat_tests)) refl
    (window_copied reading before after (span_place reading.bits span) span.len p q from to count some within is_p is_q
    from_in to_in copies)
    (λ m out. elim (cases_lt m (span_place reading.bits span)) [
      | inl below ↦ copies.below m (omega arith)
      | inr up ↦ let after : span_place reading.bits span + span.len ≤ m = out up in copies.above m (omega arith)
    ])
    copies.words

-- numbers that are out of range
pub copy_out : (n from to count : ℕ) → (n < from + count) ⊎ (n < to + count)
    → (leb (from + count) n && leb (to + count) n) ≡ false
copy_out n from to count h = grind (arith, nat_tests)

-- nothing copied is no change
pub carried_nothing : {R : Type 0} (reading : Reading R) (words : List R) (span : Extent) (from to count : ℕ)
    → span.head < reading.bits → FitsIn reading.bits span (length words) → count ≡ 0 → from ≤ span.len → to ≤ span.len
    → CarriesOut reading words words span (Copy from to count) Done
unfolding with_piece
carried_nothing reading words span from to count low fits none from_in to_in =
    let bits = span_bits reading words span in
    let start : to + 0 ≡ to = omega arith in
    let kept : with_piece bits to [] ≡ bits = rw (append-nil (take to bits), start) (take-append-drop to bits) in
    let same : bits ≡ with_piece bits to (piece bits from count) =
    sym (ap (with_piece bits to) (piece_none bits from count none) ∙ kept) in
    carried reading words words span (Copy from to count) Done low fits (grind (arith, nat_tests)) refl same
    (λ p _. refl) refl
