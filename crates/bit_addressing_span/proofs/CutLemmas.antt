-- A memory cut at the borders of its words: the bits of the parts, joined, are a piece of it.
--
-- `part_bits`: a part of one word. `bits_at_edge`, `bits_inside`: whole words with the parts round them.
-- `last_within`, `last_below`: where the last word is. `bits_from_word`: from a word of a memory on.
use Rattle.std.proofs.Common.{◌≡◌, ℕ, zero, suc, ◌+◌, ◌-◌, ◌*◌, ◌/◌, ◌%◌, ◌<◌, ◌≤◌, Bool, List, [], ◌++◌}
use Rattle.std.proofs.Common.{length, take, drop, refl, sym, ap, ◌∙◌, arith}
use Rattle.std.proofs.lemmas.List.{drop-drop}
use Rattle.std.proofs.lemmas.Nat.{div-add-mod', div_below}
use Rattle.std.proofs.Math.Nat.{mul-le-mul_right}
use Rattle.bit_addressing_memory.specs.Memory.{Reading, memory, piece, touched}
use Rattle.bit_addressing_span.proofs.SpanLemmas.{touched-within}
use Rattle.bit_addressing_memory.proofs.MemoryLemmas.{memory_part, memory-drop, piece_none, piece_join, piece_piece}

-- no bits are a piece of any list
pub no_bits : {X : Type 0} (xs : List X) (p n : ℕ) → n ≡ 0 → [] ≡ piece xs p n
no_bits xs p n none = sym (piece_none xs p n none)

-- a part of one word
pub part_bits : {R : Type 0} (reading : Reading R) (words : List R) (word k from upto : ℕ) → k ≡ 1
    → word < length words → from ≤ upto → upto ≤ reading.bits
    → piece (memory reading (take k (drop word words))) from (upto - from)
    ≡ piece (memory reading words) (word * reading.bits + from) (upto - from)
part_bits reading words word k from upto single within order short =
    let m = memory reading words in
    let n : ℕ = upto - from in
    let one : k * reading.bits ≡ reading.bits = ap (λ q. q * reading.bits) single ∙ omega arith in
    ap (λ xs. piece xs from n) (memory_part reading words word k (omega arith) ∙ ap (piece m (word * reading.bits)) one)
    ∙ piece_piece m (word * reading.bits) reading.bits from n (omega arith)

-- whole words from the first on, and a part after them
pub bits_at_edge : {R : Type 0} (reading : Reading R) (words : List R) (last k upto from len : ℕ)
    (tail : List Bool) → k ≡ last → last ≤ length words → from ≡ 0 → last * reading.bits + upto ≡ from + len
    → tail ≡ piece (memory reading words) (last * reading.bits) upto
    → memory reading (take k words) ++ tail ≡ piece (memory reading words) from len
bits_at_edge reading words last k upto from len tail is_last within edge place is_tail =
    let m = memory reading words in
    let none : 0 * reading.bits ≡ from = omega arith in
    let whole : memory reading (take last words) ≡ piece m from (last * reading.bits) =
    memory_part reading words 0 last (omega arith) ∙ ap (λ p. piece m p (last * reading.bits)) none in
    rw (is_last, whole, is_tail) (piece_join m from (last * reading.bits) (last * reading.bits) upto len (omega arith)
    (omega arith))

-- a part before the whole words, too
pub bits_inside : {R : Type 0} (reading : Reading R) (words : List R) (last upto from len : ℕ)
    (head tail : List Bool) → 0 < last → last ≤ length words → from < reading.bits
    → last * reading.bits + upto ≡ from + len
    → head ≡ piece (memory reading words) from (reading.bits - from)
    → tail ≡ piece (memory reading words) (last * reading.bits) upto
    → head ++ memory reading (take (last - 1) (drop 1 words)) ++ tail ≡ piece (memory reading words) from len
bits_inside reading words last upto from len head tail some within low place is_head is_tail =
    let m = memory reading words in
    let n : ℕ = last - 1 in
    let x : ℕ = reading.bits - from in
    let one : 1 * reading.bits ≡ reading.bits = omega arith in
    let is : last ≡ 1 + n = omega arith in
    let size : last * reading.bits ≡ reading.bits + n * reading.bits = ap (λ q. q * reading.bits) is ∙ omega arith in
    let whole : memory reading (take n (drop 1 words)) ≡ piece m reading.bits (n * reading.bits) =
    memory_part reading words 1 n (omega arith) ∙ ap (λ p. piece m p (n * reading.bits)) one in
    let front : piece m from x ++ piece m reading.bits (n * reading.bits) ≡ piece m from (x + n * reading.bits) =
    piece_join m from x reading.bits (n * reading.bits) (x + n * reading.bits) (omega arith) refl in
    rw (whole, is_head, is_tail, front)
    (piece_join m from (x + n * reading.bits) (last * reading.bits) upto len (omega arith) (omega arith))

-- the last word of some bits of so many words
pub last_within : (b c e n : ℕ) → c ≡ b → 0 < b → e ≤ n * b → e / c ≤ n
last_within b c e n same some within =
    let below : e < (n + 1) * b = omega arith in
    let is : e / c < n + 1 = rw same (div_below e b (n + 1) some below) in
    omega arith

-- where they end inside a word, that is one of them
pub last_below : (b c e n : ℕ) → c ≡ b → 0 < b → e ≤ n * b → 0 < e % c → e / c < n
last_below b c e n same some within inside =
    let rest : 0 < e % b = rw (← same) inside in
    let is : e / b * b < n * b = omega (arith, div-add-mod' e b) in
    rw same (below_of_times (e / b) n b is)
  where
    below_of_times : (x y b : ℕ) → x * b < y * b → x < y
    below_of_times x y b h = grind (arith, mul-le-mul_right)

-- the place that the last word and the rest make
pub last_place : (b c e : ℕ) → c ≡ b → e / c * b + e % c ≡ e
last_place b c e same = rw (← same) (div-add-mod' e c)

-- words that hold some bits are some words
pub some_words : (b e n : ℕ) → e ≤ n * b → 0 < e → 0 < n
some_words b e zero within some = absurd (omega arith)
some_words b e (suc n) within some = omega arith

-- the words of a span from its first word on hold its bits
pub span_within : (b word head len n k : ℕ) → head < b → 0 < len → word + touched b head len ≤ n → k ≡ n - word
    → head + len ≤ k * b
span_within b word head len n k low some fits is = touched-within b head len k low some (omega arith)

-- the bits from a word of a memory on
pub bits_from_word : {R : Type 0} (reading : Reading R) (words : List R) (word head len : ℕ) (xs : List Bool)
    → word ≤ length words → xs ≡ piece (memory reading (drop word words)) head len
    → xs ≡ piece (memory reading words) (word * reading.bits + head) len
unfolding piece
bits_from_word reading words word head len xs within is =
    is
    ∙ ap (λ m. take len (drop head m)) (memory-drop reading words word within)
    ∙ ap (take len) (drop-drop head (word * reading.bits) (memory reading words))

-- a piece by other numbers that are the same
pub placed : {X : Type 0} (xs ys : List X) (p q n k : ℕ) → ys ≡ piece xs p n → p ≡ q → n ≡ k → ys ≡ piece xs q k
placed xs ys p q n k is same_place same_count = is ∙ ap (λ i. piece xs i n) same_place ∙ ap (piece xs q) same_count
