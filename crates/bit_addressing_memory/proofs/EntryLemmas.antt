-- Entries of a memory, by word and index: what reading and writing one word tells of them.
--
-- `entry_at`, `entry_read`, `entry_read_place`: a word that was read.
-- `entry-set_same`, `entry-set_other`: a word that was written.
-- `indexed_same`, `indexed_other`: a word with the digit of one index made a bit. `writes_bit`: written back.
use Rattle.bit_addressing_memory.proofs.Common.{◌≡◌, ◌≢◌, ℕ, ◌+◌, ◌*◌, ◌/◌, ◌%◌, ◌<◌, Bool, false, List, Option}
use Rattle.bit_addressing_memory.proofs.Common.{length, map, get_or, set, sym, ap, ◌∙◌, inl, inr, arith, cases_eq}
use Rattle.bit_addressing_memory.proofs.Common.{Reading, entry, indexed, reading_in, Writes}
use Rattle.std.proofs.lemmas.List.{map-set, length-map, length-set, get_or-map, get_or-set_same}
use Rattle.std.proofs.lemmas.List.{get_or-set_other}
use Rattle.std.proofs.lemmas.Nat.{div-mul-add, mod-mul-add, div-add-mod', div_below, mod_below}
use Rattle.bit_addressing_order.proofs.CallerLemmas.{digit_at-with_digit_same, digit_at-with_digit_other}
use Rattle.bit_addressing_order.specs.Bits.{digit_at, with_digit}
use Rattle.bit_addressing_order.specs.BitOrder.{IsLawful}
use Rattle.bit_addressing_memory.proofs.OverwriteLemmas.{writes_from}

-- the entry of the word j at index i
pub entry_at : {R : Type 0} (reading : Reading R) (words : List R) (j i : ℕ) (d : R) → i < reading.bits
    → j < length words → entry reading words (j * reading.bits + i) ≡ reading.digit (get_or words j d) i
unfolding entry
entry_at reading words j i d low h =
    rw (div-mul-add j reading.bits i low, mod-mul-add j reading.bits i low)
    (get_or-map (λ w. reading.digit w i) words j d false h)

-- a word read at j has the entries of that word
pub entry_read : {R : Type 0} (reading : Reading R) (words : List R) (j i : ℕ) (x : R) → i < reading.bits
    → j < length words → x ≡ get_or words j x → reading.digit x i ≡ entry reading words (j * reading.bits + i)
entry_read reading words j i x low h e = ap (λ w. reading.digit w i) e ∙ sym (entry_at reading words j i x low h)

-- the same at a place p, which is index i of word j
pub entry_read_place : {R : Type 0} (reading : Reading R) (words : List R) (p j i : ℕ) (x : R) → 0 < reading.bits
    → p < length words * reading.bits → j ≡ p / reading.bits → i ≡ p % reading.bits → x ≡ get_or words j x
    → reading.digit x i ≡ entry reading words p
entry_read_place reading words p j i x some h is_word is_index e =
    let within : j < length words = rw is_word (div_below p reading.bits (length words) some h) in
    let low : i < reading.bits = rw is_index (mod_below p reading.bits some) in
    let place : j * reading.bits + i ≡ p = rw (is_word, is_index) (div-add-mod' p reading.bits) in
    entry_read reading words j i x low within e ∙ ap (entry reading words) place

-- a word written at j has its own digits there
pub entry-set_same : {R : Type 0} (reading : Reading R) (words : List R) (j : ℕ) (w : R) (k : ℕ)
    → k / reading.bits ≡ j → j < length words → entry reading (set words j w) k ≡ reading.digit w (k % reading.bits)
unfolding entry
entry-set_same reading words j w k e h =
    let column = λ (v : _). reading.digit v (k % reading.bits) in
    rw (e, map-set column words j w)
    (get_or-set_same (map column words) j (reading.digit w (k % reading.bits)) false
    (omega (arith, length-map words column)))

-- and leaves the entries of every other word
pub entry-set_other : {R : Type 0} (reading : Reading R) (words : List R) (j : ℕ) (w : R) (k : ℕ)
    → k / reading.bits ≢ j → entry reading (set words j w) k ≡ entry reading words k
unfolding entry
entry-set_other reading words j w k ne =
    rw (map-set (λ v. reading.digit v (k % reading.bits)) words j w)
    (get_or-set_other (map (λ v. reading.digit v (k % reading.bits)) words) j (k / reading.bits)
    (reading.digit w (k % reading.bits)) false ne)

-- a word with the digit of index i made `bit` has that bit there
pub indexed_same : {R : Type 0} (number : R → ℕ) (at : ℕ → ℕ) (x w : R) (i : ℕ) (bit : Bool)
    → number w ≡ with_digit (number x) (at i) bit → indexed number at w i ≡ bit
indexed_same number at x w i bit e =
    ap (λ n. digit_at n (at i)) e ∙ digit_at-with_digit_same (number x) (at i) bit

-- and the digits of the word at each other index, in a lawful order
pub indexed_other : {R : Type 0} (b : ℕ) (number : R → ℕ) (at select : ℕ → ℕ) (mask : Option ℕ → Option ℕ → ℕ)
    (x w : R) (i : ℕ) (bit : Bool) (k : ℕ) → IsLawful b at select mask → i < b
    → number w ≡ with_digit (number x) (at i) bit → k < b → k ≢ i → indexed number at w k ≡ indexed number at x k
indexed_other b number at select mask x w i bit k law low e small ne =
    ap (λ n. digit_at n (at k)) e
    ∙ digit_at-with_digit_other (number x) (at i) bit (at k) (λ same. ne (law.one_to_one k i small low same))

same_place : (b p q : ℕ) → p / b ≡ q / b → p % b ≡ q % b → p ≡ q
same_place b p q e1 e2 = sym (div-add-mod' p b) ∙ rw (e1, e2) (div-add-mod' q b)

-- the word j read, and written back with its digit at index i made `bit`: that writes that entry alone
pub writes_bit : {R : Type 0} (b : ℕ) (number : R → ℕ) (at select : ℕ → ℕ) (mask : Option ℕ → Option ℕ → ℕ)
    (words : List R) (x w : R) (j i : ℕ) (bit : Bool) → IsLawful b at select mask → i < b → j < length words
    → x ≡ get_or words j x → number w ≡ with_digit (number x) (at i) bit
    → Writes (reading_in b number at) words (set words j w) (j * b + i) bit
writes_bit b number at select mask words x w j i bit law low within e is =
    let reading = reading_in b number at in
    let p : ℕ = j * b + i in
    let some : 0 < b = omega arith in
    let row : p / b ≡ j = div-mul-add j b i low in
    let column : p % b ≡ i = mod-mul-add j b i low in
    let there =
    entry-set_same reading words j w p row within
    ∙ ap (indexed number at w) column
    ∙ indexed_same number at x w i bit is in
    writes_from {reading = reading} there
    (λ q ne. elim (cases_eq (q / b) j) [
      | inl same ↦
          let small : q % b < b = mod_below q b some in
          let old = indexed_other b number at select mask x w i bit (q % b) law low is small
          (λ r. ne (same_place b q p (same ∙ sym row) (r ∙ sym column))) in
          let place : j * b + q % b ≡ q = ap (λ k. k * b + q % b) (sym same) ∙ div-add-mod' q b in
          entry-set_same reading words j w q same within
          ∙ old
          ∙ entry_read reading words j (q % b) x small within e
          ∙ ap (entry reading words) place
      | inr other ↦ entry-set_other reading words j w q other
    ])
    (length-set words j w)
