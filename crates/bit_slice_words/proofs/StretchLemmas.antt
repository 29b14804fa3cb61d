-- Where a bit is found in a stretch of a memory, word by word.
--
-- One word: `lacks_is`, `digit_found`, `nowhere_word`, `word_nowhere`, `nowhere_part`, `first_part`, `last_part`.
-- Words of the other bit: `nowhere_opposite`. Joined: `nowhere_join`, `first_of_cut`, `last_of_cut`.
-- As an index of the list: `position_in`, `last_position_in`.
use Rattle.bit_addressing_memory.proofs.Common.{◌≡◌, ℕ, ◌+◌, ◌-◌, ◌*◌, ◌^◌, ◌<◌, ◌≤◌, ◌↔◌, Bool, true, false, List}
use Rattle.bit_addressing_memory.proofs.Common.{Option, Some, None, length, get_or, not, position, refl, sym, ap, ◌∙◌}
use Rattle.bit_addressing_memory.proofs.Common.{inl, inr, arith, cases_lt, Reading, entry, indexed, memory, piece}
use Rattle.std.specs.Option.{option_map}
use Rattle.std.proofs.Math.Nat.{mul-le-mul_right}
use Rattle.bit_addressing_memory.specs.BitOrder.{IsLawful}
use Rattle.bit_addressing_memory.specs.Bits.{digit_at}
use Rattle.bit_addressing_memory.proofs.EntryLemmas.{entry_read}
use Rattle.bit_addressing_memory.proofs.OrderCallerLemmas.{same_word}
use Rattle.bit_addressing_memory.proofs.WindowLemmas.{length-window, window_bit}
use Rattle.bit_slice_words.specs.Found.{is_bit, last_position}
use Rattle.bit_slice_words.specs.Stretch.{bit_found, FirstAt, LastAt, IsFirst, IsLast, Nowhere}
use Rattle.bit_slice_words.proofs.FoundLemmas.{without_bit, position_found, position_missing}
use Rattle.bit_slice_words.proofs.FoundLemmas.{last_position_found, last_position_missing}

-- ---- one word

-- a word has a bit nowhere exactly where it is the word without it
pub lacks_is : {R : Type 0} (b : ℕ) (number : R → ℕ) (at select : ℕ → ℕ) (mask : Option ℕ → Option ℕ → ℕ)
    (w z : R) (bit : Bool) → IsLawful b at select mask → number w < 2 ^ b → number z < 2 ^ b
    → ((i : ℕ) → i < b → is_bit bit (indexed number at z i) ≡ false)
    → (number w ≡ number z) ↔ ((i : ℕ) → i < b → is_bit bit (indexed number at w i) ≡ false)
lacks_is b number at select mask w z bit law fits_w fits_z without = (
  λ same i small. ap (λ n. is_bit bit (digit_at n (at i))) same ∙ without i small,
  λ none. same_word b at select mask (number w) (number z) law fits_w fits_z (λ i small.
      without_bit bit (indexed number at w i) (indexed number at z i) (none i small) (without i small)),
)

-- the bit at an index of the word j
pub digit_found : {R : Type 0} (reading : Reading R) (words : List R) (bit : Bool) (j i : ℕ) (x : R)
    → i < reading.bits → j < length words → x ≡ get_or words j x
    → is_bit bit (reading.digit x i) ≡ bit_found reading words bit (j * reading.bits + i)
digit_found reading words bit j i x small low is = ap (is_bit bit) (entry_read reading words j i x small low is)

-- a part of the word j that has the bit nowhere
pub nowhere_part : {R : Type 0} (reading : Reading R) (words : List R) (bit : Bool) (j from upto : ℕ) (x : R)
    → j < length words → x ≡ get_or words j x → upto ≤ reading.bits
    → Nowhere (λ i. is_bit bit (reading.digit x i)) from upto
    → Nowhere (bit_found reading words bit) (j * reading.bits + from) (j * reading.bits + upto)
nowhere_part reading words bit j from upto x low is within none p least less =
    let i : ℕ = p - j * reading.bits in
    let place : j * reading.bits + i ≡ p = omega arith in
    let small : i < reading.bits = omega arith in
    ap (bit_found reading words bit) (sym place)
    ∙ sym (digit_found reading words bit j i x small low is)
    ∙ none i (omega arith) (omega arith)

-- the whole word j
pub nowhere_word : {R : Type 0} (reading : Reading R) (words : List R) (bit : Bool) (j : ℕ) (x : R)
    → j < length words → x ≡ get_or words j x
    → ((i : ℕ) → i < reading.bits → is_bit bit (reading.digit x i) ≡ false)
    → Nowhere (bit_found reading words bit) (j * reading.bits) ((j + 1) * reading.bits)
nowhere_word reading words bit j x low is none p least less =
    let next : (j + 1) * reading.bits ≡ j * reading.bits + reading.bits = omega arith in
    nowhere_part reading words bit j 0 reading.bits x low is (omega arith) (λ i _ small. none i small) p (omega arith)
    (omega arith)

-- and back
pub word_nowhere : {R : Type 0} (reading : Reading R) (words : List R) (bit : Bool) (j : ℕ) (x : R)
    → j < length words → x ≡ get_or words j x
    → Nowhere (bit_found reading words bit) (j * reading.bits) ((j + 1) * reading.bits)
    → (i : ℕ) → i < reading.bits → is_bit bit (reading.digit x i) ≡ false
word_nowhere reading words bit j x low is none i small =
    let next : (j + 1) * reading.bits ≡ j * reading.bits + reading.bits = omega arith in
    digit_found reading words bit j i x small low is ∙ none (j * reading.bits + i) (omega arith) (omega arith)

-- the first index of a part of the word j is the first place there
pub first_part : {R : Type 0} (reading : Reading R) (words : List R) (bit : Bool) (j from upto i : ℕ) (x : R)
    → j < length words → x ≡ get_or words j x → upto ≤ reading.bits
    → FirstAt (λ i. is_bit bit (reading.digit x i)) from upto i
    → FirstAt (bit_found reading words bit) (j * reading.bits + from) (j * reading.bits + upto) (j * reading.bits + i)
first_part reading words bit j from upto i x low is within found =
    let least = found.low in
    let most = found.high in
    record {
      low = omega arith;
      high = omega arith;
      here = sym (digit_found reading words bit j i x (omega arith) low is) ∙ found.here;
      before = nowhere_part reading words bit j from i x low is (omega arith) found.before;
    }

-- the last index of it is the last place there
pub last_part : {R : Type 0} (reading : Reading R) (words : List R) (bit : Bool) (j from upto i : ℕ) (x : R)
    → j < length words → x ≡ get_or words j x → upto ≤ reading.bits
    → LastAt (λ i. is_bit bit (reading.digit x i)) from upto i
    → LastAt (bit_found reading words bit) (j * reading.bits + from) (j * reading.bits + upto) (j * reading.bits + i)
last_part reading words bit j from upto i x low is within found =
    let least = found.low in
    let most = found.high in
    record {
      low = omega arith;
      high = omega arith;
      here = sym (digit_found reading words bit j i x (omega arith) low is) ∙ found.here;
      after = λ q later less.
          let k : ℕ = q - j * reading.bits in
          let place : j * reading.bits + k ≡ q = omega arith in
          ap (bit_found reading words bit) (sym place)
          ∙ sym (digit_found reading words bit j k x (omega arith) low is)
          ∙ found.after k (omega arith) (omega arith);
    }

-- ---- joined

-- nowhere in two stretches end to end
pub nowhere_join : (passes : ℕ → Bool) (from mid upto : ℕ) → Nowhere passes from mid → Nowhere passes mid upto
    → Nowhere passes from upto
nowhere_join passes from mid upto front back p low high = elim (cases_lt p mid) [
  | inl early ↦ front p low early
  | inr late ↦ back p late high
]

-- the first place of a stretch that is cut at its edges: none in the first word's part, none in the words between up
-- to `next`, which has one or is the last word
pub first_of_cut : (passes : ℕ → Bool) (b place end first from last upto next stop : ℕ) (r : Option ℕ)
    → first * b + from ≡ place → last * b + upto ≡ end → from ≤ b → upto ≤ b → first + 1 ≤ next → next ≤ last
    → Nowhere passes (first * b + from) (first * b + b) → Nowhere passes ((first + 1) * b) (next * b)
    → (next < last → Nowhere passes (next * b) ((next + 1) * b) → ⊥)
    → (next ≡ last → stop ≡ upto) → (next < last → stop ≡ b)
    → IsFirst passes (next * b + 0) (next * b + stop) r → IsFirst passes place end r
first_of_cut passes b place end first from last upto next stop None start is_end index within least most head between
    some at_last inside none = elim (cases_lt next last) [
      | inl before ↦
          let whole : stop ≡ b = inside before in
          absurd (some before (λ p low high. none p (omega arith) (omega arith)))
      | inr past ↦
          let same : next ≡ last = omega arith in
          let row : next * b ≡ last * b = ap (λ k. k * b) same in
          let tail : stop ≡ upto = at_last same in
          let front = nowhere_join passes place (first * b + b) (next * b)
          (λ p low high. head p (omega arith) high) (λ p low high. between p (omega arith) high) in
          nowhere_join passes place (next * b) end front (λ p low high. none p (omega arith) (omega arith))
    ]
first_of_cut passes b place end first from last upto next stop (Some q) start is_end index within least most head
    between some at_last inside found =
    let low = found.low in
    let high = found.high in
    let rows : (first + 1) * b ≤ next * b = mul-le-mul_right b least in
    let front = nowhere_join passes place (first * b + b) (next * b)
    (λ p low high. head p (omega arith) high) (λ p low high. between p (omega arith) high) in
    let before : Nowhere passes place q =
    nowhere_join passes place (next * b) q front (λ p low high. found.before p (omega arith) high) in
    let below : q < end = elim (cases_lt next last) [
      | inl early ↦
          let whole : stop ≡ b = inside early in
          let more : (next + 1) * b ≤ last * b = mul-le-mul_right b (omega arith) in
          omega arith
      | inr past ↦
          let same : next ≡ last = omega arith in
          let row : next * b ≡ last * b = ap (λ k. k * b) same in
          let tail : stop ≡ upto = at_last same in
          omega arith
    ] in
    record { low = omega arith; high = below; here = found.here; before = before }

-- the last place of such a stretch: none in the last word's part, none in the words between down to `before`, which
-- has one or is the first word
pub last_of_cut : (passes : ℕ → Bool) (b place end first from last upto before start : ℕ) (r : Option ℕ)
    → first * b + from ≡ place → last * b + upto ≡ end → from ≤ b → upto ≤ b → first ≤ before → before < last
    → Nowhere passes (last * b + 0) (last * b + upto) → Nowhere passes ((before + 1) * b) (last * b)
    → (first < before → Nowhere passes (before * b) ((before + 1) * b) → ⊥)
    → (before ≡ first → start ≡ from) → (first < before → start ≡ 0)
    → IsLast passes (before * b + start) (before * b + b) r → IsLast passes place end r
last_of_cut passes b place end first from last upto before start None begin is_end index within least most tail between
    some at_first inside none = elim (cases_lt first before) [
      | inl later ↦
          let whole : start ≡ 0 = inside later in
          absurd (some later (λ p low high. none p (omega arith) (omega arith)))
      | inr past ↦
          let same : before ≡ first = omega arith in
          let row : before * b ≡ first * b = ap (λ k. k * b) same in
          let head : start ≡ from = at_first same in
          let back = nowhere_join passes ((before + 1) * b) (last * b) end between
          (λ p low high. tail p (omega arith) (omega arith)) in
          nowhere_join passes place ((before + 1) * b) end (λ p low high. none p (omega arith) (omega arith)) back
    ]
last_of_cut passes b place end first from last upto before start (Some q) begin is_end index within least most tail
    between some at_first inside found =
    let low = found.low in
    let high = found.high in
    let rows : (before + 1) * b ≤ last * b = mul-le-mul_right b (omega arith) in
    let back = nowhere_join passes ((before + 1) * b) (last * b) end between
    (λ p low high. tail p (omega arith) (omega arith)) in
    let above : place ≤ q = elim (cases_lt first before) [
      | inl later ↦
          let more : (first + 1) * b ≤ before * b = mul-le-mul_right b (omega arith) in
          omega arith
      | inr past ↦
          let same : before ≡ first = omega arith in
          let row : before * b ≡ first * b = ap (λ k. k * b) same in
          let head : start ≡ from = at_first same in
          omega arith
    ] in
    record {
      low = above;
      high = omega arith;
      here = found.here;
      after = λ p later less. elim (cases_lt p ((before + 1) * b)) [
        | inl inside ↦ found.after p later (omega arith)
        | inr behind ↦ back p behind less
      ];
    }

-- ---- as an index of the list

-- the first place, counted from the start of the stretch
pub position_in : {R : Type 0} (reading : Reading R) (words : List R) (bit : Bool) (place len : ℕ) (r : Option ℕ)
    → 0 < reading.bits → place + len ≤ length words * reading.bits
    → IsFirst (bit_found reading words bit) place (place + len) r
    → option_map (λ p. p - place) r ≡ position (is_bit bit) (piece (memory reading words) place len)
position_in reading words bit place len None some fits none =
    let xs = piece (memory reading words) place len in
    let size : length xs ≡ len = length-window reading words place len fits in
    sym (position_missing (is_bit bit) xs false (λ k small.
    ap (is_bit bit) (window_bit reading words place len k some (omega arith))
    ∙ none (place + k) (omega arith) (omega arith)))
position_in reading words bit place len (Some q) some fits found =
    let xs = piece (memory reading words) place len in
    let size : length xs ≡ len = length-window reading words place len fits in
    let low = found.low in
    let high = found.high in
    let i : ℕ = q - place in
    let there : place + i ≡ q = omega arith in
    sym (position_found (is_bit bit) xs i false (omega arith)
    (λ k less.
    ap (is_bit bit) (window_bit reading words place len k some (omega arith))
    ∙ found.before (place + k) (omega arith) (omega arith))
    (ap (is_bit bit) (window_bit reading words place len i some (omega arith))
    ∙ ap (bit_found reading words bit) there
    ∙ found.here))

-- the last place, counted from the start of the stretch
pub last_position_in : {R : Type 0} (reading : Reading R) (words : List R) (bit : Bool) (place len : ℕ) (r : Option ℕ)
    → 0 < reading.bits → place + len ≤ length words * reading.bits
    → IsLast (bit_found reading words bit) place (place + len) r
    → option_map (λ p. p - place) r ≡ last_position (is_bit bit) (piece (memory reading words) place len)
last_position_in reading words bit place len None some fits none =
    let xs = piece (memory reading words) place len in
    let size : length xs ≡ len = length-window reading words place len fits in
    sym (last_position_missing (is_bit bit) xs false (λ k small.
    ap (is_bit bit) (window_bit reading words place len k some (omega arith))
    ∙ none (place + k) (omega arith) (omega arith)))
last_position_in reading words bit place len (Some q) some fits found =
    let xs = piece (memory reading words) place len in
    let size : length xs ≡ len = length-window reading words place len fits in
    let low = found.low in
    let high = found.high in
    let i : ℕ = q - place in
    let there : place + i ≡ q = omega arith in
    sym (last_position_found (is_bit bit) xs i false (omega arith)
    (λ k later small.
    ap (is_bit bit) (window_bit reading words place len k some (omega arith))
    ∙ found.after (place + k) (omega arith) (omega arith))
    (ap (is_bit bit) (window_bit reading words place len i some (omega arith))
    ∙ ap (bit_found reading words bit) there
    ∙ found.here))

-- ---- words of the other bit

is_bit-not : (bit : Bool) → is_bit bit (not bit) ≡ false
is_bit-not true = refl
is_bit-not false = refl

-- n words without a bit, since all of theirs are the other one
pub nowhere_opposite : {R : Type 0} (reading : Reading R) (words : List R) (bit : Bool) (first n : ℕ)
    → ((k : ℕ) → k < n * reading.bits → entry reading words (first * reading.bits + k) ≡ not bit)
    → Nowhere (bit_found reading words bit) (first * reading.bits) ((first + n) * reading.bits)
nowhere_opposite reading words bit first n others p low high =
    let k : ℕ = p - first * reading.bits in
    let here : first * reading.bits + k ≡ p = omega arith in
    ap (bit_found reading words bit) (sym here)
    ∙ ap (is_bit bit) (others k (omega arith))
    ∙ is_bit-not bit
