-- Answers: `answers_yes`, `answers_no`. Bits of two memories: `windows_equal`,
-- `windows_differ`, `windows_agree`, `windows_stand`, `windows_part`. One list in another:
-- `holds_empty`, `holds_here`, `holds_none`, `holds_short`, `none_more`; told by the first place: `holds_behind`.
use Rattle.std.proofs.Common.{◌≡◌, ◌≢◌, ℕ, ◌+◌, ◌-◌, ◌*◌, ◌<◌, ◌≤◌, ◌↔◌, ◌==◌, nat_lt, IsTrue}
use Rattle.std.proofs.Common.{Bool, true, false, List, [], ◌∷◌, length, get_or, refl, sym, ap, ◌∙◌, inl, inr, arith}
use Rattle.std.proofs.lemmas.Bool.{cases_lt, eqb-true, eq-eqb, false≢true, lt-ltb, ltb-true}
use Rattle.bit_addressing_memory.specs.Memory.{Reading, entry, memory, piece}
use Rattle.bit_addressing_memory.proofs.MemoryLemmas.{piece_none, piece_piece}
use Rattle.bit_addressing_memory.proofs.WindowLemmas.{length-window, window_bit, window_is}
use Rattle.bit_slice_paths.specs.Agrees.{Agrees, AreSame, StandsFirst}
use Rattle.bit_slice_words.specs.Holds.{Holds}

-- ---- what an answer tells

-- the answer that it is so
pub answers_yes : {P : Type 0} → P → IsTrue true ↔ P
answers_yes holds = (λ _. holds, λ _. refl)

-- the answer that it is not
pub answers_no : {P : Type 0} → (P → ⊥) → IsTrue false ↔ P
answers_no fails = (λ yes. absurd (false≢true yes), λ holds. absurd (fails holds))

-- ---- bits of two memories

-- as many bits of two memories are equal lists where their entries are equal
pub windows_equal : {R Q : Type 0} (reading : Reading R) (words : List R) (its : Reading Q) (others : List Q)
    (place other_place len : ℕ) → 0 < reading.bits → 0 < its.bits → place + len ≤ length words * reading.bits
    → other_place + len ≤ length others * its.bits
    → AreSame reading words place its others other_place len
    → piece (memory reading words) place len ≡ piece (memory its others) other_place len
windows_equal reading words its others place other_place len some its_some fits its_fit same =
    window_is reading words place len (piece (memory its others) other_place len) some fits
    (length-window its others other_place len its_fit)
    (λ k low. same k low ∙ sym (window_bit its others other_place len k its_some low))

-- and they are not where two entries differ
pub windows_differ : {R Q : Type 0} (reading : Reading R) (words : List R) (its : Reading Q) (others : List Q)
    (place other_place len k : ℕ) (x y : Bool) → 0 < reading.bits → 0 < its.bits → k < len
    → x ≡ entry reading words (place + k) → y ≡ entry its others (other_place + k) → x ≢ y
    → piece (memory reading words) place len ≢ piece (memory its others) other_place len
windows_differ reading words its others place other_place len k x y some its_some low is_x is_y other same = other (
    is_x
    ∙ sym (window_bit reading words place len k some low)
    ∙ ap (λ xs. get_or xs k false) same
    ∙ window_bit its others other_place len k its_some low
    ∙ sym is_y
    )

-- how far they agree tells whether they are equal
pub windows_agree : {R Q : Type 0} (reading : Reading R) (words : List R) (its : Reading Q) (others : List Q)
    (place other_place len at : ℕ) → 0 < reading.bits → 0 < its.bits → place + len ≤ length words * reading.bits
    → other_place + len ≤ length others * its.bits → Agrees reading words place its others other_place len at
    → IsTrue (at == len) ↔ (piece (memory reading words) place len ≡ piece (memory its others) other_place len)
windows_agree reading words its others place other_place len at some its_some fits its_fit agree = (
  λ test.
      let all : at ≡ len = eqb-true at len test in
      windows_equal reading words its others place other_place len some its_some fits its_fit
      (λ k low. agree.same k (omega arith)),
  λ same. elim (cases_lt at len) [
    | inl low ↦
        absurd (windows_differ reading words its others place other_place len at (entry reading words (place + at))
        (entry its others (other_place + at)) some its_some low refl refl (agree.differ low) same)
    | inr past ↦ eq-eqb at len (omega (arith, agree.most))
  ],
)

-- as many equal lists have equal entries
pub windows_stand : {R Q : Type 0} (reading : Reading R) (words : List R) (its : Reading Q) (others : List Q)
    (place other_place n : ℕ) → 0 < reading.bits → 0 < its.bits
    → piece (memory reading words) place n ≡ piece (memory its others) other_place n
    → AreSame reading words place its others other_place n
windows_stand reading words its others place other_place n some its_some same k low =
    sym (window_bit reading words place n k some low)
    ∙ ap (λ xs. get_or xs k false) same
    ∙ window_bit its others other_place n k its_some low

-- they are not equal where fewer of them do not agree throughout
pub windows_part : {R Q : Type 0} (reading : Reading R) (words : List R) (its : Reading Q) (others : List Q)
    (place other_place n len at : ℕ) → 0 < reading.bits → 0 < its.bits → n ≤ len → at ≢ n
    → Agrees reading words place its others other_place n at
    → piece (memory reading words) place len ≢ piece (memory its others) other_place len
windows_part reading words its others place other_place n len at some its_some inside less agree =
    let low : at < n = omega (arith, agree.most, less) in
    windows_differ reading words its others place other_place len at (entry reading words (place + at))
    (entry its others (other_place + at)) some its_some (omega arith) refl refl (agree.differ low)

-- ---- one list in another

-- a list of no elements stands in every list
pub holds_empty : {X : Type 0} (xs ys : List X) → length ys ≡ 0 → Holds xs ys
holds_empty xs [] none = (0, omega arith, piece_none xs 0 0 refl)
holds_empty xs (y ∷ ys) none = absurd (omega arith)

-- and none stands in a shorter one
pub holds_short : {X : Type 0} (xs ys : List X) → length xs < length ys → Holds xs ys → ⊥
holds_short xs ys less held =
    let fits = held.1 in
    omega arith

-- a list stands in bits of a memory where it is a piece of them
pub holds_here : {R : Type 0} (reading : Reading R) (words : List R) (place len i n : ℕ) (ys : List Bool)
    → place + len ≤ length words * reading.bits → i + n ≤ len → length ys ≡ n
    → piece (memory reading words) (place + i) n ≡ ys → Holds (piece (memory reading words) place len) ys
holds_here reading words place len i n ys fits inside size here =
    let xs = piece (memory reading words) place len in
    let count : length xs ≡ len = length-window reading words place len fits in
    (i, omega arith, ap (piece xs i) size ∙ piece_piece (memory reading words) place len i n inside ∙ here)

-- none of the pieces before a place is the list, nor the one there, of which the first bits do not agree
pub none_more : {R Q : Type 0} (reading : Reading R) (words : List R) (its : Reading Q) (others : List Q)
    (place other_place n len at from : ℕ) → 0 < reading.bits → 0 < its.bits → n ≤ len → at ≢ n
    → ((k : ℕ) → k < from
    → piece (memory reading words) (place + k) len ≢ piece (memory its others) other_place len)
    → Agrees reading words (place + from) its others other_place n at → (k : ℕ) → k < from + 1
    → piece (memory reading words) (place + k) len ≢ piece (memory its others) other_place len
none_more reading words its others place other_place n len at from some its_some inside less none agree k low =
    elim (cases_lt k from) [
      | inl before ↦ none k before
      | inr past ↦
          let here : place + from ≡ place + k = omega arith in
          windows_part reading words its others (place + k) other_place n len at some its_some inside less
          (rw here at agree)
    ]

-- and it does not where it is none of them
pub holds_none : {R : Type 0} (reading : Reading R) (words : List R) (place len n : ℕ) (ys : List Bool)
    → place + len ≤ length words * reading.bits → length ys ≡ n
    → ((i : ℕ) → i + n ≤ len → piece (memory reading words) (place + i) n ≢ ys)
    → Holds (piece (memory reading words) place len) ys → ⊥
holds_none reading words place len n ys fits size none held =
    let xs = piece (memory reading words) place len in
    let i = held.0 in
    let inside : i + n ≤ len = omega (arith, held.1, length-window reading words place len fits) in
    none i inside (
    sym (piece_piece (memory reading words) place len i n inside) ∙ ap (piece xs i) (sym size) ∙ held.2
    )

-- so does the first of those behind places at which it does not stand
pub holds_behind : {R Q : Type 0} (reading : Reading R) (words : List R) (its : Reading Q) (others : List Q)
    (place len other_place n done near at : ℕ) → 0 < reading.bits → 0 < its.bits
    → place + len ≤ length words * reading.bits → other_place + n ≤ length others * its.bits
    → done + near + n ≡ len + 1
    → ((k : ℕ) → k < done → piece (memory reading words) (place + k) n ≢ piece (memory its others) other_place n)
    → StandsFirst reading words (place + done) its others other_place n near at
    → IsTrue (nat_lt at near)
    ↔ Holds (piece (memory reading words) place len) (piece (memory its others) other_place n)
holds_behind reading words its others place len other_place n done near at some its_some fits its_fit sum none first =
    let ys = piece (memory its others) other_place n in
    let size : length ys ≡ n = length-window its others other_place n its_fit in (
      λ test.
          let low : at < near = ltb-true at near test in
          let here : place + done + at ≡ place + (done + at) = omega arith in
          holds_here reading words place len (done + at) n ys fits (omega arith) size
          (windows_equal reading words its others (place + (done + at)) other_place n some its_some (omega arith) its_fit
          (rw here at (first.here low))),
      λ held. elim (cases_lt at near) [
        | inl low ↦ lt-ltb at near low
        | inr past ↦
            absurd (holds_none reading words place len n ys fits size
            (λ i inside same. elim (cases_lt i done) [
              | inl early ↦ none i early same
              | inr later ↦
                  let here : place + done + (i - done) ≡ place + i = omega arith in
                  first.before (i - done) (omega arith)
                  (rw here (windows_stand reading words its others (place + i) other_place n some its_some same))
            ]) held)
      ],
    )
