-- What a caller reads off a whole run: the bits and the replies of one span, by its own commands alone; and `parts`,
-- for those who read what they wrote into a part of a word.
--
-- One span's commands among all: `run_bit`, `run_replies`; none: `run_kept`. A run of one command: `run_of_one` at its
-- span, `run_beside_one` at another. Bits of one span written by other calls: `overwritten_beside`.
-- Commands with their numbers in range, on a list: `list_of_one`, `list_in_range`, `answer_of_one`,
-- `answer_in_range`. A reply that is seen as a bit is that bit: `seen_bit`.
-- The word that a domain gives first: `first_masked`.
-- From `a <= b` of pointers to their places: `places_ordered`.
use Rattle.std.proofs.Common.{◌≡◌, ◌≢◌, ℕ, ◌+◌, ◌<◌, inl, inr, Bool, true, false, List, [], ◌∷◌, length, map, get_or, refl}
use Rattle.std.proofs.Common.{suc, Option, Some, None, IfSome, MatchOption, sym, ap, ◌∙◌, arith}
use Rattle.std.proofs.Common.{◌*◌, ◌≤◌}
use Rattle.std.proofs.Math.IntN.{pos, ◌-ℤ◌, ◌*ℤ◌}
use Rattle.std.proofs.Math.Nat.{mul-le-mul_right}
use Rattle.std.proofs.lemmas.Bool.{cases_lt, eq-eqb, ne_eqb, false≢true}
use Rattle.std.proofs.lemmas.Int.{ints}
use Rattle.std.proofs.lemmas.Map.Keys.{le_from_is_le}
use Rattle.std.specs.Cmp.{int_ranks}
use Rattle.std.proofs.Common.{Ordering}
use Rattle.std.specs.declared.cmp.Ordering.TheVariants.{Less, Equal, Greater}
use Rattle.std.specs.Ordering.{MatchOrdering, int_cmp, nat_cmp, is_le, is_some_and}
use Rattle.std.specs.Ordering.{partial_le, partial_ordering_then}
use Rattle.std.specs.Int.RustNames.{unsigned_abs}
use lib.Signed.{◌≤ℤ◌, ◌<ℤ◌}
use Rattle.bit_addressing_memory.specs.Memory.{Reading, entry, reading_in, touched, Overwrites}
use Rattle.bit_addressing_memory.proofs.PartsLemmas.{stored_back, stored_then_read}
use Rattle.bit_addressing_span.specs.Parts.{AreMasked, part_from, part_upto}
use Rattle.bit_addressing_memory.specs.Partial.{ReadsPart}
use Rattle.bit_addressing_span.specs.Span.{Extent, span_bits, span_place}
use Rattle.bit_addressing.specs.declared.command.SpanCommand.{SpanCommand}
use Rattle.bit_addressing.specs.declared.command.SpanReply.{SpanReply}
use Rattle.bit_addressing.specs.declared.command.SpanReply.TheVariants.{Word, Bit, Done, Refused}
use Rattle.bit_addressing.specs.Own.{lies_in, own_after, own_answer, own_answers, own_edit, own_list, own_reading, seen}
use Rattle.bit_addressing.specs.Runs.{AreDisjoint, Runs, commands_of, replies_of, span_at}
use Rattle.bit_addressing.specs.Pointer.{Pointer, whole_place}
use Rattle.bit_addressing.proofs.CommandLemmas.{span_bit}
use Rattle.bit_addressing.proofs.RunLemmas.{outside_other, span_bits_same}
use Rattle.bit_addressing.proofs.PointerLemmas.{times_difference}

-- bit i of the span of number s is afterwards that of the list which the span's own commands leave
pub run_bit : {R : Type 0} (reading : Reading R) (before after : List R) (spans : List Extent)
    (commands : List (ℕ × SpanCommand R)) (replies : List (SpanReply R)) (s i : ℕ) (own : List (SpanCommand R))
    → 0 < reading.bits → s < length spans → i < (span_at spans s).len → commands_of s commands ≡ own
    → Runs reading before after spans commands replies
    → entry reading after (span_place reading.bits (span_at spans s) + i)
    ≡ get_or (own_list reading (span_at spans s).head own (span_bits reading before (span_at spans s))) i false
run_bit reading before after spans commands replies s i own some number low mine runs =
    let span = span_at spans s in
    sym (span_bit reading after span i some low)
    ∙ ap (λ bits. get_or bits i false) (runs.lists s number)
    ∙ ap (λ cs. get_or (own_list reading span.head cs (span_bits reading before span)) i false) mine

-- a span without commands has the bits that it had
pub run_kept : {R : Type 0} (reading : Reading R) (before after : List R) (spans : List Extent)
    (commands : List (ℕ × SpanCommand R)) (replies : List (SpanReply R)) (s : ℕ)
    → s < length spans → commands_of s commands ≡ [] → Runs reading before after spans commands replies
    → span_bits reading after (span_at spans s) ≡ span_bits reading before (span_at spans s)
unfolding own_list
run_kept reading before after spans commands replies s number none runs =
    runs.lists s number
    ∙ ap (λ cs. own_list reading (span_at spans s).head cs (span_bits reading before (span_at spans s))) none

-- after one command its span's list is as the command makes it
pub run_of_one : {R : Type 0} (reading : Reading R) (before after : List R) (spans : List Extent) (s : ℕ)
    (command : SpanCommand R) (replies : List (SpanReply R)) → s < length spans
    → Runs reading before after spans ((s, command) ∷ []) replies
    → span_bits reading after (span_at spans s)
    ≡ own_after reading (span_at spans s).head command (span_bits reading before (span_at spans s))
unfolding commands_of own_list
run_of_one reading before after spans s command replies number runs =
    let its : commands_of s ((s, command) ∷ []) ≡ command ∷ [] = rw (eq-eqb s s refl) refl in
    runs.lists s number
    ∙ ap (λ cs. own_list reading (span_at spans s).head cs (span_bits reading before (span_at spans s))) its

-- and each other span's as it was
pub run_beside_one : {R : Type 0} (reading : Reading R) (before after : List R) (spans : List Extent) (s : ℕ)
    (command : SpanCommand R) (replies : List (SpanReply R)) (t : ℕ) → t < length spans → t ≢ s
    → Runs reading before after spans ((s, command) ∷ []) replies
    → span_bits reading after (span_at spans t) ≡ span_bits reading before (span_at spans t)
unfolding commands_of
run_beside_one reading before after spans s command replies t number other runs =
    let none : commands_of t ((s, command) ∷ []) ≡ [] = rw (ne_eqb s t (λ same. other (sym same))) refl in
    run_kept reading before after spans ((s, command) ∷ []) replies t number none runs

-- where bits of one span are written, each other span has the bits that it had
pub overwritten_beside : {R : Type 0} (reading : Reading R) (before after : List R) (spans : List Extent)
    (s t place n : ℕ) (now : ℕ → Bool) → 0 < reading.bits → AreDisjoint reading.bits spans
    → s < length spans → t < length spans → t ≢ s → span_place reading.bits (span_at spans s) ≤ place
    → place + n ≤ span_place reading.bits (span_at spans s) + (span_at spans s).len
    → Overwrites reading before after place n now
    → span_bits reading after (span_at spans t) ≡ span_bits reading before (span_at spans t)
overwritten_beside reading before after spans s t place n now some apart in_s in_t other low high writes =
    span_bits_same reading before after (span_at spans t) some writes.words (λ p inside.
    let out = outside_other reading.bits spans s t p apart in_s in_t (λ same. other (sym same)) inside in
    elim (cases_lt p place) [
      | inl below ↦ writes.below p below
      | inr up ↦ let past = out (omega arith) in writes.above p (omega arith)
    ])

-- the replies to the span's own commands are the answers that its list gives to them
pub run_replies : {R : Type 0} (reading : Reading R) (before after : List R) (spans : List Extent)
    (commands : List (ℕ × SpanCommand R)) (replies : List (SpanReply R)) (s : ℕ) (own : List (SpanCommand R))
    (answered : List (SpanReply R)) → s < length spans → commands_of s commands ≡ own
    → replies_of s commands replies ≡ answered → Runs reading before after spans commands replies
    → map (seen reading) answered
    ≡ own_answers reading (span_at spans s).head own (span_bits reading before (span_at spans s))
run_replies reading before after spans commands replies s own answered number mine its runs =
    let span = span_at spans s in
    ap (map (seen reading)) (sym its)
    ∙ runs.replied s number
    ∙ ap (λ cs. own_answers reading span.head cs (span_bits reading before span)) mine

-- one command is an edit of the list
pub list_of_one : {R : Type 0} (reading : Reading R) (head : ℕ) (command : SpanCommand R) (bits : List Bool)
    → own_list reading head (command ∷ []) bits ≡ own_after reading head command bits
unfolding own_list
list_of_one reading head command bits = refl

-- with its numbers in range
pub list_in_range : {R : Type 0} (reading : Reading R) (head : ℕ) (command : SpanCommand R) (bits : List Bool)
    → lies_in reading.bits head (length bits) command ≡ true
    → own_after reading head command bits ≡ own_edit reading head command bits
unfolding own_after
list_in_range reading head command bits is = rw is refl

-- and has one answer
pub answer_of_one : {R : Type 0} (reading : Reading R) (head : ℕ) (command : SpanCommand R) (bits : List Bool)
    → own_answers reading head (command ∷ []) bits ≡ own_answer reading.bits head command bits ∷ []
unfolding own_answers
answer_of_one reading head command bits = refl

pub answer_in_range : {R : Type 0} (b head : ℕ) (command : SpanCommand R) (bits : List Bool)
    → lies_in b head (length bits) command ≡ true
    → own_answer b head command bits ≡ own_reading b head command bits
unfolding own_answer
answer_in_range b head command bits is = rw is refl

-- a reply that is seen as a bit is that bit
pub seen_bit : {R : Type 0} (reading : Reading R) (reply : SpanReply R) (bit : Bool)
    → seen reading reply ≡ Bit bit → reply ≡ Bit bit
seen_bit reading (Word word) bit is = cc
seen_bit reading (Bit other) bit is = cc
seen_bit reading Done bit is = cc
seen_bit reading Refused bit is = cc

-- the word that a span's domain gives first reads the span's part of its first word
pub first_masked : {R : Type 0} (b : ℕ) (number : R → ℕ) (at : ℕ → ℕ) (words : List R) (span : Extent)
    (numbers left : List ℕ) (given : Option R) → length numbers ≡ touched b span.head span.len
    → AreMasked (reading_in b number at) at words span numbers
    → MatchOption given ((numbers ≡ []) × (left ≡ [])) (λ word. numbers ≡ number word ∷ left)
    → IfSome given (λ word. ReadsPart (reading_in b number at) words span.word word (part_from b span 0)
    (part_upto b span 0))
first_masked b number at words span numbers left None count are gives = tt
first_masked b number at words span numbers left (Some word) count are gives =
    let size : length numbers ≡ suc (length left) = ap length gives in
    let first : get_or numbers 0 0 ≡ number word = ap (λ ns. get_or ns 0 0) gives in
    let start : span.word + 0 ≡ span.word = omega arith in
    let part = are 0 (omega arith) in
    rw (start, first) at part

later_word : (b : ℕ) (p q : Pointer) → p.word <ℤ q.word → p.bit < b → whole_place b p ≤ℤ whole_place b q
later_word b p q later low =
    let d = unsigned_abs (q.word -ℤ p.word) in
    let apart : q.word -ℤ p.word ≡ pos d = omega (arith, ints) in
    let some : 1 ≤ d = omega (arith, ints) in
    let more : 1 * b ≤ d * b = mul-le-mul_right b some in
    let on : (q.word *ℤ pos b) -ℤ (p.word *ℤ pos b) ≡ pos d *ℤ pos b =
    sym (times_difference q.word p.word b) ∙ ap (λ x. x *ℤ pos b) apart in
    omega (arith, ints)

ordered_by : (b : ℕ) (p q : Pointer) (r : Ordering)
    → MatchOrdering r (p.word <ℤ q.word) (p.word ≡ q.word) (q.word <ℤ p.word) → p.bit < b
    → is_some_and is_le (partial_ordering_then (Some r) (Some (nat_cmp p.bit q.bit))) ≡ true
    → whole_place b p ≤ℤ whole_place b q
ordered_by b p q Less later low h = later_word b p q later low
ordered_by b p q Equal same low h =
    let bits : p.bit ≤ q.bit = le_from_is_le p.bit q.bit h in
    let words : p.word *ℤ pos b ≡ q.word *ℤ pos b = ap (λ w. w *ℤ pos b) same in
    omega (arith, ints)
ordered_by b p q Greater earlier low h = absurd (false≢true h)

-- where `p <= q` of two pointers is true, the place of p is not past that of q
pub places_ordered : (b : ℕ) (p q : Pointer) → p.bit < b
    → partial_le (λ (x y : Pointer). partial_ordering_then (Some (int_cmp x.word y.word)) (Some (nat_cmp x.bit y.bit)))
    p q ≡ true
    → whole_place b p ≤ℤ whole_place b q
places_ordered b p q low h = ordered_by b p q (int_cmp p.word q.word) (int_ranks p.word q.word) low h

-- what is read of a part of a word after it was written, and what restores it
pub ruleset parts = (stored_then_read, stored_back)
