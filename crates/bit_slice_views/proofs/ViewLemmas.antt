-- The bits of a window, as pieces of its memory.
--
-- All words, none, one: `view_all`, `view_none`, `view_one`. From a place on: `view_place`, `word_of`. Cut: `view_front`,
-- `view_rest`. `views` has these and the window's length and entries, for a `tactic` line.
use Rattle.std.proofs.Common.{◌≡◌, ℕ, ◌+◌, ◌*◌, ◌/◌, ◌%◌, ◌<◌, ◌≤◌, Bool, List, [], ◌∷◌, length, take, drop}
use Rattle.std.proofs.Common.{sym, ap, ◌∙◌, inl, inr, arith, refl}
use Rattle.std.proofs.lemmas.Nat.{div-add-mod'}
use Rattle.std.proofs.lemmas.List.{append-nil, drop-drop, take_all, length-drop}
use Rattle.std.proofs.lemmas.Bool.{cases_lt}
use Rattle.std.proofs.Math.Nat.{mul-le-mul_right}
use Rattle.bit_addressing_memory.specs.Memory.{Reading, digits, memory, piece}
use Rattle.bit_addressing_memory.proofs.MemoryLemmas.{length-memory, memory-drop, piece_piece, piece_all}
use Rattle.bit_addressing_memory.proofs.WindowLemmas.{length-window, window_bit}

-- all bits of the words
pub view_all : {R : Type 0} (reading : Reading R) (words : List R) (n : ℕ) → n ≡ length words * reading.bits
    → piece (memory reading words) 0 n ≡ memory reading words
view_all reading words n all = piece_all (memory reading words) n (length-memory reading words ∙ sym all)

-- no words, and one
pub view_none : {R : Type 0} (reading : Reading R) → memory reading [] ≡ []
unfolding memory
view_none reading = refl

pub view_one : {R : Type 0} (reading : Reading R) (word : R) → memory reading (word ∷ []) ≡ digits reading word
unfolding memory
view_one reading word = append-nil (digits reading word)

-- the word of a place of n words is one of them, or the end
pub word_of : (b size p n : ℕ) → size ≡ b → 0 < b → p ≤ n * b → p / size ≤ n
word_of b size p n is some h =
    let at : p / b * b + p % b ≡ p = div-add-mod' p b in
    rw is (elim (cases_lt n (p / b)) [
      | inl more ↦ absurd (
          let past : (n + 1) * b ≤ p / b * b = mul-le-mul_right b (omega arith) in
          omega arith
          )
      | inr enough ↦ enough
    ])

-- the bits from a place on stand in the words from the place's own word on
pub view_place : {R : Type 0} (reading : Reading R) (size : ℕ) (words rest : List R) (p n : ℕ)
    → size ≡ reading.bits → rest ≡ drop (p / size) words → p / size ≤ length words
    → piece (memory reading rest) (p % size) n ≡ piece (memory reading words) p n
unfolding piece
view_place reading size words rest p n is rest_is inside =
    let b = reading.bits in
    let m = memory reading words in
    let fits : p / b ≤ length words = rw (← is) inside in
    let same : drop (p % b) (memory reading (drop (p / b) words)) ≡ drop p m =
    ap (drop (p % b)) (memory-drop reading words (p / b) fits)
    ∙ drop-drop (p % b) (p / b * b) m ∙ ap (λ k. drop k m) (div-add-mod' p b) in
    rw (rest_is, is) (ap (take n) same)

-- the first bits, and those behind them
pub view_front : (xs : List Bool) (i : ℕ) → piece xs 0 i ≡ take i xs
unfolding piece
view_front xs i = refl

pub view_rest : (xs : List Bool) (i n : ℕ) → i + n ≡ length xs → piece xs i n ≡ drop i xs
unfolding piece
view_rest xs i n all = take_all n (drop i xs) (simp length-drop (omega arith))

pub ruleset views = (length-window, window_bit, view_all, view_none, view_one, piece_piece)
