use Rattle.std.proofs.Common.{◌≡◌, ℕ, ◌+◌, ◌-◌, ◌*◌, ◌/◌, ◌%◌, ◌<◌, ◌≤◌, [], length, map, get_or, min}
use Rattle.std.proofs.Common.{refl, sym, ap, ◌∙◌, arith, length-append}
use Rattle.std.proofs.lemmas.List.{length-map}
use Rattle.bit_addressing_memory.specs.Memory.{read_by, touched}
use Rattle.bit_addressing_span.specs.PartialElement.{partial_numbers}
use Rattle.bit_addressing_span.proofs.CutLemmas.{bits_at_edge, bits_inside, last_within, last_below}
use Rattle.bit_addressing_span.proofs.CutLemmas.{last_place, placed, some_words}
use Rattle.bit_addressing_span.proofs.MaskedLemmas.{reads_as, region_reads, whole_reads}
use Rattle.bit_addressing_span.proofs.SpanLemmas.{touched-whole}
use Rattle.bit_addressing_span.proofs.cut.cut_words.Goals as goal

pub part_before-requires-clause-inside : goal.part_before-requires-clause-inside
part_before-requires-clause-inside g c inside =
    let from = c.into_inner-from.ensures in
    last_below g.R.BitRegister.BITS c.BITS-bits.result (c.into_inner-from.result + c.args.len)
    (length c.args.words.now) c.BITS-bits.ensures (omega (arith, from.within))
    (omega (arith, from.value, c.requires.within)) inside

pub part_before-requires-2-clause-inside : goal.part_before-requires-2-clause-inside
part_before-requires-2-clause-inside g c inside =
    let from = c.into_inner-from.ensures in
    last_below g.R.BitRegister.BITS c.BITS-bits.result (c.into_inner-from.result + c.args.len)
    (length c.args.words.now) c.BITS-bits.ensures (omega (arith, from.within))
    (omega (arith, from.value, c.requires.within)) inside

pub words_between-requires-clause-within : goal.words_between-requires-clause-within
words_between-requires-clause-within g c =
    let from = c.into_inner-from.ensures in
    last_within g.R.BitRegister.BITS c.BITS-bits.result (c.into_inner-from.result + c.args.len)
    (length c.args.words.now) c.BITS-bits.ensures (omega (arith, from.within))
    (omega (arith, from.value, c.requires.within))

pub words_between-requires-2-clause-within : goal.words_between-requires-2-clause-within
words_between-requires-2-clause-within g c =
    let from = c.into_inner-from.ensures in
    last_within g.R.BitRegister.BITS c.BITS-bits.result (c.into_inner-from.result + c.args.len)
    (length c.args.words.now) c.BITS-bits.ensures (omega (arith, from.within))
    (omega (arith, from.value, c.requires.within))

pub part_of-requires-clause-inside : goal.part_of-requires-clause-inside
part_of-requires-clause-inside g c =
    some_words g.R.BitRegister.BITS (c.args.head + c.args.len) (length c.args.words.now) c.requires.within
    (omega (arith, c.requires.some))

pub returns-then-from-eq0-clause-bits : goal.returns-then-from-eq0-clause-bits
returns-then-from-eq0-clause-bits g c =
    let b : ℕ = g.R.BitRegister.BITS in
    let size : ℕ = c.BITS-bits.result in
    let e : ℕ = c.into_inner-from.result + c.args.len in
    let from = c.into_inner-from.ensures in
    let within = last_within b size e (length c.args.words.now) c.BITS-bits.ensures (omega (arith, from.within))
    (omega (arith, from.value, c.requires.within)) in
    let place = last_place b size e c.BITS-bits.ensures in
    rw c.words_between.ensures.words
    (bits_at_edge (read_by g.R.BitRegister g.O.Positions.position) c.args.words.now (e / size) _ (e % size)
    c.args.head c.args.len _ (omega arith) within (omega (arith, from.value, c.if-from-eq0.true))
    (omega (arith, from.value, place)) c.part_before.ensures.bits)

pub returns-then-last-eq0-clause-bits : goal.returns-then-last-eq0-clause-bits
returns-then-last-eq0-clause-bits g c =
    let b : ℕ = g.R.BitRegister.BITS in
    let e : ℕ = c.into_inner-from.result + c.args.len in
    let place = last_place b c.BITS-bits.result e c.BITS-bits.ensures in
    let start : 0 * b + c.args.head ≡ c.args.head = omega arith in
    let none : e / c.BITS-bits.result * b ≡ 0 = ap (λ q. q * b) c.if-last-eq0.true ∙ omega arith in
    placed _ _ _ _ _ _ c.part_of.ensures.bits start
    (omega (arith, c.into_inner-from.ensures.value, c.new_unchecked-tail.ensures, place, none))

pub returns-clause-bits : goal.returns-clause-bits
returns-clause-bits g c =
    let b : ℕ = g.R.BitRegister.BITS in
    let size : ℕ = c.BITS-bits.result in
    let e : ℕ = c.into_inner-from.result + c.args.len in
    let from = c.into_inner-from.ensures in
    let within = last_within b size e (length c.args.words.now) c.BITS-bits.ensures (omega (arith, from.within))
    (omega (arith, from.value, c.requires.within)) in
    let place = last_place b size e c.BITS-bits.ensures in
    let start : 0 * b + c.args.head ≡ c.args.head = omega arith in
    let head = placed _ _ _ _ _ _ (rw c.MAX.ensures at c.part_of-2.ensures.bits) start refl in
    rw c.words_between-2.ensures.words
    (bits_inside (read_by g.R.BitRegister g.O.Positions.position) c.args.words.now (e / size) (e % size)
    c.args.head c.args.len _ _ (omega (arith, c.if-last-eq0.false)) within (omega (arith, from.value, from.within))
    (omega (arith, from.value, place)) head c.part_before-2.ensures.bits)

pub returns-then-from-eq0-clause-words : goal.returns-then-from-eq0-clause-words
returns-then-from-eq0-clause-words g c =
    let from = c.into_inner-from.ensures in
    let whole = touched-whole g.R.BitRegister.BITS c.BITS-bits.result c.into_inner-from.result c.args.len
    c.BITS-bits.ensures from.within c.requires.some
    ∙ ap (λ h. touched g.R.BitRegister.BITS h c.args.len) from.value in
    simp (length-append, length-map) (omega (arith, c.words_between.ensures.len, c.part_before.ensures.words, whole))

pub returns-clause-words : goal.returns-clause-words
returns-clause-words g c =
    let from = c.into_inner-from.ensures in
    let whole = touched-whole g.R.BitRegister.BITS c.BITS-bits.result c.into_inner-from.result c.args.len
    c.BITS-bits.ensures from.within c.requires.some
    ∙ ap (λ h. touched g.R.BitRegister.BITS h c.args.len) from.value in
    simp (length-append, length-map)
    (omega (
      arith,
      c.part_of-2.ensures.words,
      c.words_between-2.ensures.len,
      c.part_before-2.ensures.words,
      c.if-last-eq0.false,
      whole,
    ))

pub returns-then-from-eq0-clause-masked : goal.returns-then-from-eq0-clause-masked
returns-then-from-eq0-clause-masked g c =
    let b : ℕ = g.R.BitRegister.BITS in
    let size : ℕ = c.BITS-bits.result in
    let words = c.args.words.now in
    let from = c.into_inner-from.ensures in
    let e : ℕ = c.into_inner-from.result + c.args.len in
    let last : ℕ = e / size in
    let upto : ℕ = e % size in
    let some : 0 < size = omega (arith, c.BITS-bits.ensures, from.within) in
    let short : upto < b = omega (arith, c.BITS-bits.ensures) in
    let place = last_place b size e c.BITS-bits.ensures in
    let whole = touched-whole b size c.into_inner-from.result c.args.len c.BITS-bits.ensures from.within c.requires.some
    ∙ ap (λ h. touched b h c.args.len) from.value in
    let within = last_within b size e (length words) c.BITS-bits.ensures (omega (arith, from.within))
    (omega (arith, from.value, c.requires.within)) in
    let body = map g.R.BitRegister.number c.words_between.result.now in
    region_reads (read_by g.R.BitRegister g.O.Positions.position) g.O.Positions.position words c.args.head c.args.len
    last upto 0 [] body _ (omega (arith, from.value, from.within)) (omega arith) (omega arith)
    (λ _. omega (arith, from.value, c.if-from-eq0.true)) (omega (arith, from.value, place)) short (sym whole) refl
    (length-map c.words_between.result.now g.R.BitRegister.number ∙ c.words_between.ensures.len)
    c.part_before.ensures.words (λ none. absurd (omega arith))
    (λ k low inside.
    let index : k ≡ k - 0 = omega arith in
    let start : 0 + k ≡ k = omega arith in
    reads_as _ g.O.Positions.position words (0 + k) k _ _ 0 0 b b start
    (ap (λ ws. get_or (map g.R.BitRegister.number ws) k 0) (sym c.words_between.ensures.words)
    ∙ ap (λ q. get_or body q 0) index) refl refl
    (whole_reads b g.R.BitRegister.number g.O.Positions.position words 0 (last - 0) k (omega arith) (omega arith)))
    c.part_before.ensures.masked

pub returns-then-last-eq0-clause-masked : goal.returns-then-last-eq0-clause-masked
returns-then-last-eq0-clause-masked g c k within =
    let b : ℕ = g.R.BitRegister.BITS in
    let size : ℕ = c.BITS-bits.result in
    let words = c.args.words.now in
    let from = c.into_inner-from.ensures in
    let e : ℕ = c.into_inner-from.result + c.args.len in
    let last : ℕ = e / size in
    let upto : ℕ = e % size in
    let some : 0 < size = omega (arith, c.BITS-bits.ensures, from.within) in
    let short : upto < b = omega (arith, c.BITS-bits.ensures) in
    let place = last_place b size e c.BITS-bits.ensures in
    let whole = touched-whole b size c.into_inner-from.result c.args.len c.BITS-bits.ensures from.within c.requires.some
    ∙ ap (λ h. touched b h c.args.len) from.value in
    let only : k ≡ 0 = omega (arith, whole, c.if-last-eq0.true) in
    let none : k * b ≡ 0 = ap (λ q. q * b) only ∙ omega arith in
    let times : last * b ≡ 0 = ap (λ q. q * b) c.if-last-eq0.true ∙ omega arith in
    let numbers = partial_numbers g.R.BitRegister.number g.O.OrderCandidate.masked c.part_of.result in
    let tail : c.new_unchecked-tail.result ≡ min (c.args.head + c.args.len - k * b) b =
    omega (arith, from.value, c.new_unchecked-tail.ensures, place, times, none, short) in
    reads_as (read_by g.R.BitRegister g.O.Positions.position) g.O.Positions.position words 0 (0 + k) _ _ c.args.head
    (c.args.head - k * b) c.new_unchecked-tail.result (min (c.args.head + c.args.len - k * b) b) (omega arith)
    (ap (λ q. get_or numbers q 0) (sym only)) (omega arith) tail c.part_of.ensures.masked

pub returns-clause-masked : goal.returns-clause-masked
returns-clause-masked g c =
    let b : ℕ = g.R.BitRegister.BITS in
    let size : ℕ = c.BITS-bits.result in
    let words = c.args.words.now in
    let from = c.into_inner-from.ensures in
    let e : ℕ = c.into_inner-from.result + c.args.len in
    let last : ℕ = e / size in
    let upto : ℕ = e % size in
    let some : 0 < size = omega (arith, c.BITS-bits.ensures, from.within) in
    let short : upto < b = omega (arith, c.BITS-bits.ensures) in
    let place = last_place b size e c.BITS-bits.ensures in
    let whole = touched-whole b size c.into_inner-from.result c.args.len c.BITS-bits.ensures from.within c.requires.some
    ∙ ap (λ h. touched b h c.args.len) from.value in
    let within = last_within b size e (length words) c.BITS-bits.ensures (omega (arith, from.within))
    (omega (arith, from.value, c.requires.within)) in
    let body = map g.R.BitRegister.number c.words_between-2.result.now in
    let begun : 1 ≤ last = omega (arith, c.if-last-eq0.false) in
    region_reads (read_by g.R.BitRegister g.O.Positions.position) g.O.Positions.position words c.args.head c.args.len
    last upto 1 _ body _ (omega (arith, from.value, from.within)) (omega arith) begun
    (λ none. absurd (omega arith)) (omega (arith, from.value, place)) short (sym whole) c.part_of-2.ensures.words
    (length-map c.words_between-2.result.now g.R.BitRegister.number ∙ c.words_between-2.ensures.len)
    c.part_before-2.ensures.words (λ _. rw c.MAX.ensures at c.part_of-2.ensures.masked)
    (λ k low inside.
    let start : 1 + (k - 1) ≡ k = omega arith in
    reads_as _ g.O.Positions.position words (1 + (k - 1)) k _ _ 0 0 b b start
    (ap (λ ws. get_or (map g.R.BitRegister.number ws) (k - 1) 0) (sym c.words_between-2.ensures.words)) refl refl
    (whole_reads b g.R.BitRegister.number g.O.Positions.position words 1 (last - 1) (k - 1) (omega arith)
    (omega arith)))
    c.part_before-2.ensures.masked
