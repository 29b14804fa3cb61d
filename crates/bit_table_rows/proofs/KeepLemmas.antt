-- Bits filled in one after another by a sweep that goes up.
--
-- What stands at a place: `filled_inside`, `filled_before`, `filled_behind`, `filled_added`, `filled_beside`.
-- More bits in one word: `word_begun`, `word_moved`, `filled_within`, `filled_put`; by a sweep `fills_within`,
-- `fills_put`. A row: `fills_none`, `fills_more`, `fills_part`. All of them: `rest_none`, `rest_put`.
use Rattle.std.proofs.Common.{◌≡◌, ◌≢◌, ◌⊎◌, ℕ, suc, ◌+◌, ◌-◌, ◌*◌, ◌/◌, ◌%◌, ◌<◌, ◌≤◌}
use Rattle.std.proofs.Common.{◌++◌, Bool, false, List, []}
use Rattle.std.proofs.Common.{length, get_or, set, refl, sym, ap, ◌∙◌, inl, inr, arith, length-append}
use Rattle.std.proofs.Common.{mul-le-mul_right}
use Rattle.std.proofs.lemmas.Bool.{cases_eq, cases_lt}
use Rattle.std.proofs.lemmas.Bool.Decides.{nat_tests}
use Rattle.std.proofs.lemmas.List.{get_or_append_left, get_or-append_right, append_assoc, append-nil, length-set}
use Rattle.std.proofs.lemmas.Nat.{div-mul-add, mod-mul-add, div-add-mod', div_below, mod_below, le-div}
use Rattle.bit_addressing_memory.proofs.EntryLemmas.{entry_read, entry-set_same, entry-set_other}
use Rattle.bit_addressing_memory.proofs.Changes.{changed-set}
use Rattle.bit_addressing_memory.proofs.MemoryLemmas.{piece_join}
use Rattle.bit_addressing_memory.proofs.WindowLemmas.{length-window, window_bit, window_same}
use Rattle.bit_addressing_memory.specs.Memory.{Overwrites, Reading, entry, memory, piece}
use Rattle.bit_addressing_memory.specs.Memory.{touched}
use Rattle.bit_addressing_memory.specs.Moves.{changed}
use Rattle.bit_addressing_memory.specs.Partial.{IsStored}
use Rattle.bit_addressing_memory.specs.Sweep.{SameButReads, edge_of, sweep_lender, sweep_words, way_of, writes_of}
use Rattle.bit_addressing_memory.specs.declared.sweep.Sweep.{Sweep}
use Rattle.bit_table_rows.specs.KeepSteps.{Filled, Fills, IsFilledWord, filled_bit}

-- ---- what stands at a place

pub filled_inside : {R : Type 0} (reading : Reading R) (before : List R) (first : ℕ) (bits : List Bool) (p : ℕ)
    → first ≤ p → p < first + length bits → filled_bit reading before first bits p ≡ get_or bits (p - first) false
unfolding filled_bit
filled_inside reading before first bits p low high = grind (arith, nat_tests)

pub filled_before : {R : Type 0} (reading : Reading R) (before : List R) (first : ℕ) (bits : List Bool) (p : ℕ)
    → p < first → filled_bit reading before first bits p ≡ entry reading before p
unfolding filled_bit
filled_before reading before first bits p low = grind (arith, nat_tests)

pub filled_behind : {R : Type 0} (reading : Reading R) (before : List R) (first : ℕ) (bits : List Bool) (p : ℕ)
    → first + length bits ≤ p → filled_bit reading before first bits p ≡ entry reading before p
unfolding filled_bit
filled_behind reading before first bits p high = grind (arith, nat_tests)

-- more bits change the places behind the others alone
pub filled_added : {R : Type 0} (reading : Reading R) (before : List R) (first : ℕ) (bits more : List Bool) (k : ℕ)
    → k < length more → filled_bit reading before first (bits ++ more) (first + length bits + k) ≡ get_or more k false
filled_added reading before first bits more k low =
    let size : length (bits ++ more) ≡ length bits + length more = length-append bits more in
    let at : first + length bits + k - first ≡ length bits + k = omega arith in
    let own : length bits + k - length bits ≡ k = omega arith in
    filled_inside reading before first (bits ++ more) (first + length bits + k) (omega arith) (omega arith)
    ∙ ap (λ i. get_or (bits ++ more) i false) at
    ∙ get_or-append_right bits more (length bits) (length bits + k) false refl (omega arith)
    ∙ ap (λ i. get_or more i false) own

pub filled_beside : {R : Type 0} (reading : Reading R) (before : List R) (first : ℕ) (bits more : List Bool) (p : ℕ)
    → (first + length bits ≤ p → first + length bits + length more ≤ p)
    → filled_bit reading before first (bits ++ more) p ≡ filled_bit reading before first bits p
filled_beside reading before first bits more p beside =
    let size : length (bits ++ more) ≡ length bits + length more = length-append bits more in
    elim (cases_lt p first) [
      | inl low ↦
          filled_before reading before first (bits ++ more) p low
          ∙ sym (filled_before reading before first bits p low)
      | inr high ↦ elim (cases_lt p (first + length bits)) [
        | inl inside ↦
            filled_inside reading before first (bits ++ more) p high (omega arith)
            ∙ get_or_append_left bits more false (p - first) (omega arith)
            ∙ sym (filled_inside reading before first bits p high inside)
        | inr past ↦
            let far = beside past in
            filled_behind reading before first (bits ++ more) p (omega arith)
            ∙ sym (filled_behind reading before first bits p past)
      ]
    ]

-- ---- the word of the next place

next_inside : (b to n : ℕ) → to % b + n < b → (to + n) / b ≡ to / b
next_inside b to n low =
    let is : to / b * b + (to % b + n) ≡ to + n = omega (arith, div-add-mod' to b) in
    ap (λ p. p / b) (sym is) ∙ div-mul-add (to / b) b (to % b + n) low

next_word : (b to n : ℕ) → 0 < b → to % b + n ≡ b → (to + n) / b ≡ to / b + 1
next_word b to n some last =
    let more : (to / b + 1) * b ≡ to / b * b + b = omega arith in
    let is : (to / b + 1) * b + 0 ≡ to + n = omega (arith, div-add-mod' to b) in
    ap (λ p. p / b) (sym is) ∙ div-mul-add (to / b + 1) b 0 some

next_first : (b to n : ℕ) → 0 < b → to % b + n ≡ b → (to + n) % b ≡ 0
next_first b to n some last =
    let more : (to / b + 1) * b ≡ to / b * b + b = omega arith in
    let is : (to / b + 1) * b + 0 ≡ to + n = omega (arith, div-add-mod' to b) in
    ap (λ p. p % b) (sym is) ∙ mod-mul-add (to / b + 1) b 0 some

-- ---- more bits in a word

module _ {R : Type 0} (reading : Reading R) (before now : List R) (first to : ℕ) (word : R) (bits : List Bool)
    (some : 0 < reading.bits) (had : Filled reading before now first to word bits) where
  -- a word that was read, where it is begun
  pub word_begun : (own : R) → to / reading.bits < length now → own ≡ get_or now (to / reading.bits) own
      → (to ≡ first) ⊎ (to % reading.bits ≡ 0) → IsFilledWord reading before first bits (to / reading.bits) own
  word_begun own within is start i low =
      let p : ℕ = to / reading.bits * reading.bits + i in
      let size = had.size in
      let whole = div-add-mod' to reading.bits in
      let same : filled_bit reading before first bits p ≡ entry reading before p = elim start [
        | inl empty ↦ elim (cases_lt p first) [
          | inl early ↦ filled_before reading before first bits p early
          | inr late ↦ filled_behind reading before first bits p (omega arith)
        ]
        | inr fresh ↦ filled_behind reading before first bits p (omega arith)
      ] in
      entry_read reading now (to / reading.bits) i own low within is ∙ had.above p (omega arith) ∙ sym same

  -- more bits, with their word not full
  pub filled_within : (next : R) (more : List Bool) → to % reading.bits + length more < reading.bits
      → IsFilledWord reading before first (bits ++ more) (to / reading.bits) next
      → Filled reading before now first (to + length more) next (bits ++ more)
  filled_within next more low made =
      let row : (to + length more) / reading.bits ≡ to / reading.bits =
      next_inside reading.bits to (length more) low in
      let whole = div-add-mod' to reading.bits in
      let size = had.size in
      let all : length (bits ++ more) ≡ length bits + length more = length-append bits more in
      record {
        size = omega arith;
        below = λ p h.
            let under : p < to / reading.bits * reading.bits = rw row at h in
            had.below p under ∙ sym (filled_beside reading before first bits more p (λ past. absurd (omega arith)));
        above = λ p h. had.above p (rw row at h);
        begun = λ _ _. rw row made;
        words = had.words;
      }

  -- more bits, with their word put
  pub filled_put : (next : R) (more : List Bool) → to % reading.bits + length more ≡ reading.bits
      → to / reading.bits < length now
      → IsFilledWord reading before first (bits ++ more) (to / reading.bits) next
      → Filled reading before (set now (to / reading.bits) next) first (to + length more) next (bits ++ more)
  filled_put next more last within made =
      let b = reading.bits in
      let j : ℕ = to / b in
      let row : (to + length more) / b ≡ j + 1 = next_word b to (length more) some last in
      let column : (to + length more) % b ≡ 0 = next_first b to (length more) some last in
      let whole : j * b + to % b ≡ to = div-add-mod' to b in
      let over : (j + 1) * b ≡ j * b + b = omega arith in
      let size = had.size in
      let all : length (bits ++ more) ≡ length bits + length more = length-append bits more in
      record {
        size = omega arith;
        below = λ p h. elim (cases_lt p (j * b)) [
          | inl under ↦
              let ne : p / b ≢ j = omega (arith, div_below p b j some under) in
              entry-set_other reading now j next p ne
              ∙ had.below p under
              ∙ sym (filled_beside reading before first bits more p (λ past. absurd (omega arith)))
          | inr here ↦
              let upto : p < (j + 1) * b = rw row at h in
              let i : ℕ = p - j * b in
              let small : i < b = omega arith in
              let at : j * b + i ≡ p = omega arith in
              let is_row : p / b ≡ j = ap (λ q. q / b) (sym at) ∙ div-mul-add j b i small in
              let is_column : p % b ≡ i = ap (λ q. q % b) (sym at) ∙ mod-mul-add j b i small in
              entry-set_same reading now j next p is_row within
              ∙ ap (reading.digit next) is_column
              ∙ made i small
              ∙ ap (filled_bit reading before first (bits ++ more)) at
        ];
        above = λ p h.
            let past : (j + 1) * b ≤ p = rw row at h in
            let ne : p / b ≢ j = omega (arith, le-div (j + 1) p b some past) in
            entry-set_other reading now j next p ne ∙ had.above p (omega arith);
        begun = λ _ index. absurd (omega arith);
        words = length-set now j next ∙ had.words;
      }

-- the word with bits of the memory, stored from an index on
pub word_moved : {R : Type 0} (reading : Reading R) (before words : List R) (first to from n index : ℕ)
    (bits : List Bool) (word own next : R) → 0 < reading.bits → index ≡ to % reading.bits
    → from + n ≤ length words * reading.bits
    → IsStored reading own next index (index + n) (λ k. entry reading words (from + (k - index)))
    → Filled reading before words first to word bits
    → IsFilledWord reading before first bits (to / reading.bits) own
    → IsFilledWord reading before first (bits ++ piece (memory reading words) from n) (to / reading.bits) next
word_moved reading before words first to from n index bits word own next some at within put filled had k small =
    let more = piece (memory reading words) from n in
    let j : ℕ = to / reading.bits in
    let count : length more ≡ n = length-window reading words from n within in
    let size = filled.size in
    let place : j * reading.bits + index ≡ first + length bits = omega (arith, div-add-mod' to reading.bits) in
    let beside = filled_beside reading before first bits more (j * reading.bits + k) in
    elim (cases_lt k index) [
      | inl under ↦ put.below k under small ∙ had k small ∙ sym (beside (λ past. absurd (omega arith)))
      | inr up ↦ elim (cases_lt k (index + n)) [
        | inl inside ↦
            let low : k - index < length more = omega arith in
            let here : first + length bits + (k - index) ≡ j * reading.bits + k = omega arith in
            put.inside k up inside small
            ∙ sym (window_bit reading words from n (k - index) some (omega arith))
            ∙ sym (filled_added reading before first bits more (k - index) low)
            ∙ ap (filled_bit reading before first (bits ++ more)) here
        | inr past ↦ put.above k past small ∙ had k small ∙ sym (beside (λ far. omega arith))
      ]
    ]

-- ---- the sweep

-- nothing more
pub fills_none : {R : Type 0} (reading : Reading R) (s : Sweep R) (word : R) (first to : ℕ)
    → Fills reading s s word word first to []
fills_none reading s word first to =
    let here : to + 0 ≡ to = omega arith in
    record {
      filled = λ before bits had. rw (append-nil bits, here) had;
      ahead = λ p _. refl;
      words = refl;
      edge = λ h. rw here h;
      writes = rw here refl;
      few_changed = λ number others. omega arith;
      way = refl;
      lender = refl;
    }

-- bits after others
pub fills_more : {R : Type 0} (reading : Reading R) (s t u : Sweep R) (word mid next : R) (first to : ℕ)
    (one other : List Bool) → 0 < reading.bits → Fills reading s t word mid first to one
    → Fills reading t u mid next first (to + length one) other
    → Fills reading s u word next first to (one ++ other)
fills_more reading s t u word mid next first to one other some had more =
    let b = reading.bits in
    let size : length (one ++ other) ≡ length one + length other = length-append one other in
    let end : to + length (one ++ other) ≡ to + length one + length other = omega arith in
    let order : (to + length one) / b * b ≤ (to + length one + length other) / b * b =
    mul-le-mul_right b (le-div ((to + length one) / b) (to + length one + length other) b some
    (omega (arith, div-add-mod' (to + length one) b))) in
    record {
      filled = λ before bits old.
          rw (end, ← append_assoc bits one other)
          (more.filled before (bits ++ one) (had.filled before bits old));
      ahead = λ p h.
          let far : (to + length one + length other) / b * b ≤ p = rw end at h in
          more.ahead p far ∙ had.ahead p (omega arith);
      words = more.words ∙ had.words;
      edge = λ h. rw end (more.edge (had.edge h));
      writes = rw end (omega (arith, had.writes, more.writes));
      few_changed = λ number others. omega (arith, had.few_changed number others, more.few_changed number others);
      way = more.way ∙ had.way;
      lender = more.lender ∙ had.lender;
    }

-- reads change nothing of it
fills_read : {R : Type 0} (reading : Reading R) (s t v : Sweep R) (word next : R) (first to : ℕ)
    (more : List Bool) → Fills reading s t word next first to more → SameButReads t v
    → sweep_lender v ≡ sweep_lender t → Fills reading s v word next first to more
fills_read reading s t v word next first to more had same loan = record {
  filled = λ before bits old. rw same.words (had.filled before bits old);
  ahead = λ p h. rw same.words (had.ahead p h);
  words = rw same.words had.words;
  edge = λ h. rw same.edge (had.edge h);
  writes = rw same.writes had.writes;
  few_changed = λ count others.
      omega (arith, ap (changed count others) same.words, same.writes, had.few_changed count others);
  way = same.way ∙ had.way;
  lender = loan ∙ had.lender;
}

-- no reads
pub reads_none : {R : Type 0} (s : Sweep R) → SameButReads s s
reads_none s = record { words = refl; way = refl; edge = refl; writes = refl }

-- reads after reads
pub reads_again : {R : Type 0} (s t u : Sweep R) → SameButReads s t → SameButReads t u → SameButReads s u
reads_again s t u one other = record {
  words = other.words ∙ one.words;
  way = other.way ∙ one.way;
  edge = other.edge ∙ one.edge;
  writes = other.writes ∙ one.writes;
}

-- more bits, in a word that was read or is at hand, by reads from s to t
module _ {R : Type 0} (reading : Reading R) (s t : Sweep R) (word next : R) (first to : ℕ) (more : List Bool)
    (some : 0 < reading.bits) (same : SameButReads s t) (loan : sweep_lender t ≡ sweep_lender s)
    (made : (before : List R) (bits : List Bool)
    → Filled reading before (sweep_words s) first to word bits
    → IsFilledWord reading before first (bits ++ more) (to / reading.bits) next) where
  -- the word is not full
  pub fills_within : to % reading.bits + length more < reading.bits → Fills reading s t word next first to more
  fills_within low =
      let row : (to + length more) / reading.bits ≡ to / reading.bits =
      next_inside reading.bits to (length more) low in
      record {
        filled = λ before bits had.
            rw same.words
            (filled_within reading before (sweep_words s) first to word bits some had next more low
            (made before bits had));
        ahead = λ p _. rw same.words refl;
        words = rw same.words refl;
        edge = λ h. rw (row, same.edge) h;
        writes = rw (row, same.writes) refl;
        few_changed = λ count others. omega (arith, ap (changed count others) same.words, same.writes);
        way = same.way;
        lender = loan;
      }

  -- the word is full, and put
  pub fills_put : (u : Sweep R) → to % reading.bits + length more ≡ reading.bits
      → to / reading.bits < length (sweep_words t)
      → sweep_words u ≡ set (sweep_words t) (to / reading.bits) next → edge_of u ≡ to / reading.bits + 1
      → writes_of u ≡ writes_of t + 1 → way_of u ≡ way_of t → sweep_lender u ≡ sweep_lender t
      → Fills reading s u word next first to more
  fills_put u last within words edge writes way lender =
      let b = reading.bits in
      let row : (to + length more) / b ≡ to / b + 1 = next_word b to (length more) some last in
      let is : sweep_words u ≡ set (sweep_words s) (to / b) next = rw same.words at words in
      let low : to / b < length (sweep_words s) = rw same.words at within in
      record {
        filled = λ before bits had.
            rw is
            (filled_put reading before (sweep_words s) first to word bits some had next more last low
            (made before bits had));
        ahead = λ p h.
            let past : (to / b + 1) * b ≤ p = rw row at h in
            let ne : p / b ≢ to / b = omega (arith, le-div (to / b + 1) p b some past) in
            rw is (entry-set_other reading (sweep_words s) (to / b) next p ne);
        words = rw is (length-set (sweep_words s) (to / b) next);
        edge = λ _. rw (row, edge) (omega arith);
        writes = rw row (omega (arith, same.writes));
        few_changed = λ count others.
            let one = changed-set count others (sweep_words s) (to / b) next in
            omega (arith, ap (changed count others) is, same.writes);
        way = way ∙ same.way;
        lender = lender ∙ loan;
      }

-- ---- a row, part by part

-- a part of the row that is still as it was, put from t on
pub fills_part : {R : Type 0} (reading : Reading R) (s t u : Sweep R) (word mid next : R) (first to from i n : ℕ)
    → 0 < reading.bits → to ≤ from → from + (i + n) ≤ length (sweep_words s) * reading.bits
    → Fills reading s t word mid first to (piece (memory reading (sweep_words s)) from i)
    → Fills reading t u mid next first (to + i) (piece (memory reading (sweep_words t)) (from + i) n)
    → Fills reading s u word next first to (piece (memory reading (sweep_words s)) from (i + n))
fills_part reading s t u word mid next first to from i n some order within had more =
    let m = memory reading (sweep_words s) in
    let size : length (piece m from i) ≡ i = length-window reading (sweep_words s) from i (omega arith) in
    let end : to + length (piece m from i) ≡ to + i = omega arith in
    let there : piece (memory reading (sweep_words t)) (from + i) n ≡ piece m (from + i) n =
    window_same reading (sweep_words s) (sweep_words t) (from + i) n some (omega arith) had.words
    (λ k low. had.ahead (from + i + k) (rw end (omega (arith, div-add-mod' (to + i) reading.bits)))) in
    let put : Fills reading t u mid next first (to + length (piece m from i)) (piece m (from + i) n) =
    rw (end, ← there) more in
    rw (← piece_join m from i (from + i) n (i + n) refl refl)
    (fills_more reading s t u word mid next first to (piece m from i) (piece m (from + i) n) some had put)

-- ---- all of them

-- no bit yet
pub filled_none : {R : Type 0} (reading : Reading R) (before : List R) (first : ℕ) (word : R)
    → Filled reading before before first first word []
filled_none reading before first word = record {
  size = omega arith;
  below = λ p _. elim (cases_lt p first) [
    | inl early ↦ sym (filled_before reading before first [] p early)
    | inr late ↦ sym (filled_behind reading before first [] p (omega arith))
  ];
  above = λ p _. refl;
  begun = λ any. absurd (omega arith);
  words = refl;
}

-- a word that is begun is one of the words
pub begun_within : (b to n : ℕ) → 0 < b → to ≤ n * b → 0 < to % b → to / b < n
begun_within b to n some within index = elim (cases_lt to (n * b)) [
  | inl low ↦ div_below to b n some low
  | inr high ↦
      let at : n * b + 0 ≡ to = omega arith in
      let none : to % b ≡ 0 = ap (λ q. q % b) (sym at) ∙ mod-mul-add n b 0 some in
      absurd (omega arith)
]

-- no more words are counted than the bits touch: the last one not full, full, and none
pub touched_part : (b first to : ℕ) → 0 < b → first < to → 0 < to % b
    → first / b + touched b first (to - first) ≡ to / b + 1
touched_part b first to some any index =
    let n : ℕ = to - first - 1 in
    let count : to - first ≡ suc n = omega arith in
    let last : first + n + 1 ≡ to = omega arith in
    let low : (first + n) % b + 1 < b = elim (cases_eq ((first + n) % b + 1) b) [
      | inl full ↦ absurd (omega (arith, rw last at (next_first b (first + n) 1 some full)))
      | inr other ↦ omega (arith, mod_below (first + n) b some)
    ] in
    let row : to / b ≡ (first + n) / b = rw last at (next_inside b (first + n) 1 low) in
    let order : first / b ≤ (first + n) / b =
    le-div (first / b) (first + n) b some (omega (arith, div-add-mod' first b)) in
    rw count (omega arith)

pub touched_full : (b first to : ℕ) → 0 < b → first < to → to % b ≡ 0
    → first / b + touched b first (to - first) ≡ to / b
touched_full b first to some any index =
    let n : ℕ = to - first - 1 in
    let count : to - first ≡ suc n = omega arith in
    let last : first + n + 1 ≡ to = omega arith in
    let full : (first + n) % b + 1 ≡ b = elim (cases_lt ((first + n) % b + 1) b) [
      | inl low ↦
          let row : to / b ≡ (first + n) / b = rw last at (next_inside b (first + n) 1 low) in
          absurd (omega (arith, ap (λ q. q * b) row, div-add-mod' to b, div-add-mod' (first + n) b))
      | inr high ↦ omega (arith, mod_below (first + n) b some)
    ] in
    let row : to / b ≡ (first + n) / b + 1 = rw last at (next_word b (first + n) 1 some full) in
    let order : first / b ≤ (first + n) / b =
    le-div (first / b) (first + n) b some (omega (arith, div-add-mod' first b)) in
    rw count (omega arith)

pub touched_none : (b first to : ℕ) → to ≡ first → first / b + touched b first (to - first) ≡ to / b
touched_none b first to is =
    let none : to - first ≡ 0 = omega arith in
    rw (none, is) (omega arith)

overwrites_all : {R : Type 0} (reading : Reading R) (before now : List R) (first : ℕ) (bits : List Bool)
    → length now ≡ length before → ((p : ℕ) → entry reading now p ≡ filled_bit reading before first bits p)
    → Overwrites reading before now first (length bits) (λ k. get_or bits k false)
overwrites_all reading before now first bits words all = record {
  there = λ k low.
      let at : first + k - first ≡ k = omega arith in
      all (first + k)
      ∙ filled_inside reading before first bits (first + k) (omega arith) (omega arith)
      ∙ ap (λ i. get_or bits i false) at;
  below = λ p low. all p ∙ filled_before reading before first bits p low;
  above = λ p high. all p ∙ filled_behind reading before first bits p high;
  words = words;
}

-- no word is begun
pub rest_none : {R : Type 0} (reading : Reading R) (before now : List R) (first to : ℕ) (word : R) (bits : List Bool)
    → 0 < reading.bits → Filled reading before now first to word bits → (to ≡ first) ⊎ (to % reading.bits ≡ 0)
    → Overwrites reading before now first (length bits) (λ k. get_or bits k false)
rest_none reading before now first to word bits some had none =
    let whole = div-add-mod' to reading.bits in
    let size = had.size in
    let all : (p : ℕ) → entry reading now p ≡ filled_bit reading before first bits p = λ p.
    elim (cases_lt p (to / reading.bits * reading.bits)) [
      | inl under ↦ had.below p under
      | inr over ↦ had.above p over ∙ sym (elim none [
        | inl empty ↦ elim (cases_lt p first) [
          | inl early ↦ filled_before reading before first bits p early
          | inr late ↦ filled_behind reading before first bits p (omega arith)
        ]
        | inr full ↦ filled_behind reading before first bits p (omega arith)
      ])
    ] in
    overwrites_all reading before now first bits had.words all

-- the word that was begun is put
pub rest_put : {R : Type 0} (reading : Reading R) (before now : List R) (first to : ℕ) (word : R) (bits : List Bool)
    → 0 < reading.bits → Filled reading before now first to word bits → first < to → 0 < to % reading.bits
    → to / reading.bits < length now
    → Overwrites reading before (set now (to / reading.bits) word) first (length bits) (λ k. get_or bits k false)
rest_put reading before now first to word bits some had any index within =
    let b = reading.bits in
    let j : ℕ = to / b in
    let whole : j * b + to % b ≡ to = div-add-mod' to b in
    let small : to % b < b = mod_below to b some in
    let over : (j + 1) * b ≡ j * b + b = omega arith in
    let size = had.size in
    let all : (p : ℕ) → entry reading (set now j word) p ≡ filled_bit reading before first bits p = λ p.
    elim (cases_eq (p / b) j) [
      | inl here ↦
          let at : j * b + p % b ≡ p = ap (λ q. q * b + p % b) (sym here) ∙ div-add-mod' p b in
          entry-set_same reading now j word p here within
          ∙ had.begun any index (p % b) (mod_below p b some)
          ∙ ap (filled_bit reading before first bits) at
      | inr other ↦
          entry-set_other reading now j word p other
          ∙ elim (cases_lt p (j * b)) [
            | inl under ↦ had.below p under
            | inr high ↦
                let behind : j ≤ p / b = le-div j p b some high in
                let next : j + 1 ≤ p / b = omega arith in
                let past : (j + 1) * b ≤ p = omega (arith, mul-le-mul_right b next, div-add-mod' p b) in
                had.above p high ∙ sym (filled_behind reading before first bits p (omega arith))
          ]
    ] in
    overwrites_all reading before (set now j word) first bits (length-set now j word ∙ had.words) all
