-- What the users of a memory need, over any b bits a word and any digits.
--
-- The list: `length-memory`, `entry_memory` (its entries), `same_memory` (equal entries, equal lists).
-- Its parts: `memory-append`, `memory-take`, `memory-drop`, `memory_part` (words), `word_part`, `word_whole` (a
-- part of one word).
-- Pieces: `length-piece`, `get_or-piece`, `piece_none`, `piece_join`, `piece_piece`.
-- A list written over: `length-with_piece`, `with_piece_below`, `with_piece_inside`, `with_piece_above`.
-- What a call leaves, as a list: `memory_written`, `memory_copied`.
use Rattle.bit_addressing_memory.proofs.Common.{◌≡◌, ℕ, suc, ◌+◌, ◌-◌, ◌*◌, ◌/◌, ◌%◌, ◌<◌, ◌≤◌, Bool, false, List, []}
use Rattle.bit_addressing_memory.proofs.Common.{◌∷◌, ◌++◌, length, map, take, drop, get_or, set, refl, sym, ap, ◌∙◌}
use Rattle.bit_addressing_memory.proofs.Common.{inl, inr, arith, rules, length-append, length-set, add-one}
use Rattle.bit_addressing_memory.proofs.Common.{get_or-set_same, get_or-set_other, cases_eq, cases_lt, Reading, entry}
use Rattle.bit_addressing_memory.proofs.Common.{digits, memory, piece, with_piece, Overwrites, Writes, Copies}
use Rattle.std.proofs.lemmas.List.{append-nil, take-append-drop, length-take, length-take-le}
use Rattle.std.proofs.lemmas.List.{length-drop, get_or_append_left, get_or-append_right}
use Rattle.std.proofs.lemmas.List.{take_at, drop_at, drop-drop, drop_more, take_all, same_lists, ext_get_or, places}
use Rattle.std.proofs.lemmas.List.Concat.{flat_map-append}
use Rattle.std.proofs.lemmas.List.FromFn.{length-map-range_with_len, get_or-map-range_with_len}
use Rattle.std.proofs.lemmas.Nat.{div-mul-add, mod-mul-add, div-add-mod', mod_below}
use Rattle.bit_addressing_memory.proofs.OverwriteLemmas.{written_there, written_others}

-- ---- the list

-- so many words of b bits
pub length-memory : {R : Type 0} (reading : Reading R) (words : List R)
    → length (memory reading words) ≡ length words * reading.bits
unfolding memory
length-memory reading [] = omega arith
length-memory reading (x ∷ xs) = omega (
  arith,
  length-append (digits reading x) (memory reading xs),
  length-map-range_with_len (reading.digit x) 0 reading.bits,
  length-memory reading xs,
)

entry_first : {R : Type 0} (reading : Reading R) (x : R) (xs : List R) (k : ℕ) → k < reading.bits
    → entry reading (x ∷ xs) k ≡ reading.digit x k
unfolding entry
entry_first reading x xs k h =
    let is : 0 * reading.bits + k ≡ k = omega arith in
    let row : k / reading.bits ≡ 0 = ap (λ q. q / reading.bits) (sym is) ∙ div-mul-add 0 reading.bits k h in
    let col : k % reading.bits ≡ k = ap (λ q. q % reading.bits) (sym is) ∙ mod-mul-add 0 reading.bits k h in
    simp (row, col)

entry_rest : {R : Type 0} (reading : Reading R) (x : R) (xs : List R) (k : ℕ) → 0 < reading.bits → reading.bits ≤ k
    → entry reading (x ∷ xs) k ≡ entry reading xs (k - reading.bits)
unfolding entry
entry_rest reading x xs k some h =
    let m : ℕ = k - reading.bits in
    let is : (m / reading.bits + 1) * reading.bits + m % reading.bits ≡ k = omega (arith, div-add-mod' m reading.bits)
    in
    let low : m % reading.bits < reading.bits = mod_below m reading.bits some in
    let row : k / reading.bits ≡ suc (m / reading.bits) =
    ap (λ q. q / reading.bits) (sym is) ∙ div-mul-add (m / reading.bits + 1) reading.bits (m % reading.bits) low
    ∙ add-one (m / reading.bits) in
    let col : k % reading.bits ≡ m % reading.bits = ap (λ q. q % reading.bits) (sym is)
    ∙ mod-mul-add (m / reading.bits + 1) reading.bits (m % reading.bits) low in
    ap (λ q. get_or (map (λ w. reading.digit w (k % reading.bits)) (x ∷ xs)) q false) row
    ∙ ap (λ q. get_or (map (λ w. reading.digit w q) xs) (m / reading.bits) false) col

-- an entry of the memory is an element of its list
pub entry_memory : {R : Type 0} (reading : Reading R) (words : List R) (k : ℕ) → 0 < reading.bits
    → get_or (memory reading words) k false ≡ entry reading words k
unfolding memory entry
entry_memory reading [] k some = refl
entry_memory reading (x ∷ xs) k some =
    let front = digits reading x in
    let size : length front ≡ reading.bits = length-map-range_with_len (reading.digit x) 0 reading.bits in
    elim (cases_lt k reading.bits) [
      | inl h ↦
          get_or_append_left front (memory reading xs) false k (omega arith)
          ∙ get_or-map-range_with_len (reading.digit x) 0 reading.bits k k false h (omega arith)
          ∙ sym (entry_first reading x xs k h)
      | inr h ↦
          get_or-append_right front (memory reading xs) reading.bits k false size h
          ∙ entry_memory reading xs (k - reading.bits) some
          ∙ sym (entry_rest reading x xs k some h)
    ]

-- two memories of as many words with equal entries are equal lists
pub same_memory : {R : Type 0} (reading : Reading R) (xs ys : List R) → 0 < reading.bits → length xs ≡ length ys
    → ((k : ℕ) → k < length xs * reading.bits → entry reading xs k ≡ entry reading ys k)
    → memory reading xs ≡ memory reading ys
same_memory reading xs ys some same equal =
    ext_get_or false (memory reading xs) (memory reading ys)
    (length-memory reading xs ∙ ap (λ n. n * reading.bits) same ∙ sym (length-memory reading ys))
    (λ k h.
    let within : k < length xs * reading.bits = omega (arith, length-memory reading xs) in
    entry_memory reading xs k some ∙ equal k within ∙ sym (entry_memory reading ys k some))

-- ---- its parts

pub memory-append : {R : Type 0} (reading : Reading R) (xs ys : List R)
    → memory reading (xs ++ ys) ≡ memory reading xs ++ memory reading ys
unfolding memory
memory-append reading xs ys = flat_map-append (λ w. digits reading w) xs ys

memory_split : {R : Type 0} (reading : Reading R) (words : List R) (i : ℕ)
    → memory reading words ≡ memory reading (take i words) ++ memory reading (drop i words)
memory_split reading words i =
    ap (memory reading) (sym (take-append-drop i words)) ∙ memory-append reading (take i words) (drop i words)

front_len : {R : Type 0} (reading : Reading R) (words : List R) (i : ℕ) → i ≤ length words
    → length (memory reading (take i words)) ≡ i * reading.bits
front_len reading words i h =
    length-memory reading (take i words) ∙ ap (λ n. n * reading.bits) (length-take-le i words h)

-- the first i words
pub memory-take : {R : Type 0} (reading : Reading R) (words : List R) (i : ℕ) → i ≤ length words
    → memory reading (take i words) ≡ take (i * reading.bits) (memory reading words)
memory-take reading words i h =
    let front = memory reading (take i words) in
    let rest = memory reading (drop i words) in
    sym (ap (take (i * reading.bits)) (memory_split reading words i)
    ∙ take_at front rest (i * reading.bits) (front_len reading words i h))

-- the words from i on
pub memory-drop : {R : Type 0} (reading : Reading R) (words : List R) (i : ℕ) → i ≤ length words
    → memory reading (drop i words) ≡ drop (i * reading.bits) (memory reading words)
memory-drop reading words i h =
    let front = memory reading (take i words) in
    let rest = memory reading (drop i words) in
    sym (ap (drop (i * reading.bits)) (memory_split reading words i)
    ∙ drop_at front rest (i * reading.bits) (front_len reading words i h))

-- n words from i on
pub memory_part : {R : Type 0} (reading : Reading R) (words : List R) (i n : ℕ) → i + n ≤ length words
    → memory reading (take n (drop i words)) ≡ piece (memory reading words) (i * reading.bits) (n * reading.bits)
unfolding piece
memory_part reading words i n h =
    let fits : n ≤ length (drop i words) = simp length-drop (omega arith) in
    memory-take reading (drop i words) n fits ∙ ap (take (n * reading.bits)) (memory-drop reading words i (omega arith))

memory_one : {R : Type 0} (reading : Reading R) (x : R) → memory reading (x ∷ []) ≡ digits reading x
unfolding memory
memory_one reading x = append-nil (digits reading x)

-- ---- pieces

pub length-piece : {X : Type 0} (xs : List X) (p n : ℕ) → p + n ≤ length xs → length (piece xs p n) ≡ n
unfolding piece
length-piece xs p n h = length-take-le n (drop p xs) (simp length-drop (omega arith))

pub get_or-piece : {X : Type 0} (xs : List X) (p n k : ℕ) (d : X) → k < n
    → get_or (piece xs p n) k d ≡ get_or xs (p + k) d
unfolding piece
get_or-piece xs p n k d h = search (rules, places)

pub piece_none : {X : Type 0} (xs : List X) (p n : ℕ) → n ≡ 0 → piece xs p n ≡ []
unfolding piece
piece_none xs p n e = rw e refl

pub piece_all : {X : Type 0} (xs : List X) (n : ℕ) → length xs ≡ n → piece xs 0 n ≡ xs
unfolding piece
piece_all xs n e = take_all n xs (omega arith)

join : {X : Type 0} (z : List X) (x y : ℕ) → take x z ++ take y (drop x z) ≡ take (x + y) z
join z x y = same_lists (take x z ++ take y (drop x z)) (take (x + y) z) (search (rules, places))
    (λ k d h. grind (arith, places))

-- two pieces end to end
pub piece_join : {X : Type 0} (xs : List X) (p x q y n : ℕ) → q ≡ p + x → n ≡ x + y
    → piece xs p x ++ piece xs q y ≡ piece xs p n
unfolding piece
piece_join xs p x q y n is_q is_n = rw (is_q, is_n, ← drop-drop x p xs) (join (drop p xs) x y)

-- a piece of a piece
pub piece_piece : {X : Type 0} (xs : List X) (p y q n : ℕ) → q + n ≤ y
    → piece (piece xs p y) q n ≡ piece xs (p + q) n
unfolding piece
piece_piece xs p y q n h =
    same_lists (take n (drop q (take y (drop p xs)))) (take n (drop (p + q) xs)) (search (rules, places))
    (λ k d h. grind (arith, places))

-- a part of the digits of the word j
pub word_part : {R : Type 0} (reading : Reading R) (words : List R) (j : ℕ) (x : R) (from n : ℕ)
    → j < length words → x ≡ get_or words j x → from + n ≤ reading.bits
    → piece (digits reading x) from n ≡ piece (memory reading words) (j * reading.bits + from) n
word_part reading words j x from n h is short =
    let m = memory reading words in
    let one : take 1 (drop j words) ≡ x ∷ [] = ap (take 1) (drop_more words j x h) ∙ ap (λ y. y ∷ []) (sym is) in
    let single : 1 * reading.bits ≡ reading.bits = omega arith in
    let whole : digits reading x ≡ piece m (j * reading.bits) reading.bits =
    sym (memory_one reading x)
    ∙ ap (memory reading) (sym one)
    ∙ memory_part reading words j 1 (omega arith)
    ∙ ap (piece m (j * reading.bits)) single in
    ap (λ m. piece m from n) whole ∙ piece_piece m (j * reading.bits) reading.bits from n short

-- the digits of the word j
pub word_whole : {R : Type 0} (reading : Reading R) (words : List R) (j : ℕ) (x : R) → j < length words
    → x ≡ get_or words j x → digits reading x ≡ piece (memory reading words) (j * reading.bits) reading.bits
word_whole reading words j x h is =
    let start : j * reading.bits + 0 ≡ j * reading.bits = omega arith in
    sym (piece_all (digits reading x) reading.bits (length-map-range_with_len (reading.digit x) 0 reading.bits))
    ∙ word_part reading words j x 0 reading.bits h is (omega arith)
    ∙ ap (λ q. piece (memory reading words) q reading.bits) start

-- ---- a list written over

pub length-with_piece : {X : Type 0} (xs : List X) (p : ℕ) (ys : List X) → p + length ys ≤ length xs
    → length (with_piece xs p ys) ≡ length xs
unfolding with_piece
length-with_piece xs p ys h = simp (length-append, length-take, length-drop) (omega arith)

pub with_piece_below : {X : Type 0} (xs : List X) (p : ℕ) (ys : List X) (k : ℕ) (d : X) → p + length ys ≤ length xs
    → k < p → get_or (with_piece xs p ys) k d ≡ get_or xs k d
unfolding with_piece
with_piece_below xs p ys k d h low = search (rules, places)

pub with_piece_inside : {X : Type 0} (xs : List X) (p : ℕ) (ys : List X) (k i : ℕ) (d : X)
    → p + length ys ≤ length xs → k ≡ p + i → i < length ys → get_or (with_piece xs p ys) k d ≡ get_or ys i d
unfolding with_piece
with_piece_inside xs p ys k i d h is low = search (rules, places)

pub with_piece_above : {X : Type 0} (xs : List X) (p : ℕ) (ys : List X) (k : ℕ) (d : X) → p + length ys ≤ length xs
    → p + length ys ≤ k → get_or (with_piece xs p ys) k d ≡ get_or xs k d
unfolding with_piece
with_piece_above xs p ys k d h high = search (rules, places)

-- ---- what a call leaves, as a list

-- one entry written is one element set
pub memory_written : {R : Type 0} (reading : Reading R) (before after : List R) (k : ℕ) (bit : Bool)
    → 0 < reading.bits → k < length before * reading.bits → Writes reading before after k bit
    → memory reading after ≡ set (memory reading before) k bit
memory_written reading before after k bit some within is =
    let m = memory reading before in
    let size : length m ≡ length before * reading.bits = length-memory reading before in
    ext_get_or false (memory reading after) (set m k bit)
    (length-memory reading after ∙ ap (λ n. n * reading.bits) is.words ∙ sym size ∙ sym (length-set m k bit))
    (λ p _. entry_memory reading after p some ∙ elim (cases_eq p k) [
      | inl same ↦ rw same (written_there is ∙ sym (get_or-set_same m k bit false (omega arith)))
      | inr other ↦
          written_others is p other ∙ sym (entry_memory reading before p some)
          ∙ sym (get_or-set_other m k p bit false other)
    ])

-- entries overwritten are a list written over
pub memory_overwritten : {R : Type 0} (reading : Reading R) (before after : List R) (place n : ℕ) (now : ℕ → Bool)
    (ys : List Bool) → 0 < reading.bits → place + n ≤ length before * reading.bits → length ys ≡ n
    → ((k : ℕ) → k < n → now k ≡ get_or ys k false) → Overwrites reading before after place n now
    → memory reading after ≡ with_piece (memory reading before) place ys
memory_overwritten reading before after place n now ys some within count same is =
    let m = memory reading before in
    let size : length m ≡ length before * reading.bits = length-memory reading before in
    let fits : place + length ys ≤ length m = omega arith in
    ext_get_or false (memory reading after) (with_piece m place ys)
    (length-memory reading after ∙ ap (λ n. n * reading.bits) is.words ∙ sym size
    ∙ sym (length-with_piece m place ys fits))
    (λ p _. entry_memory reading after p some ∙ elim (cases_lt p place) [
      | inl low ↦
          is.below p low
          ∙ sym (entry_memory reading before p some)
          ∙ sym (with_piece_below m place ys p false fits low)
      | inr high ↦ elim (cases_lt p (place + n)) [
        | inl inside ↦
            let i : ℕ = p - place in
            let at : place + i ≡ p = omega arith in
            let small : i < n = omega arith in
            ap (entry reading after) (sym at)
            ∙ is.there i small
            ∙ same i small
            ∙ sym (with_piece_inside m place ys p i false fits (sym at) (omega arith))
        | inr past ↦
            is.above p past
            ∙ sym (entry_memory reading before p some)
            ∙ sym (with_piece_above m place ys p false fits (omega arith))
      ]
    ])

-- entries copied are a piece written over
pub memory_copied : {R Q : Type 0} (reading : Reading R) (before after : List R) (its : Reading Q) (other : List Q)
    (source target len : ℕ) → 0 < reading.bits → 0 < its.bits → source + len ≤ length other * its.bits
    → target + len ≤ length before * reading.bits → Copies reading before after its other source target len
    → memory reading after ≡ with_piece (memory reading before) target (piece (memory its other) source len)
memory_copied reading before after its other source target len some its_some from to is =
    let o = memory its other in
    let source_in : source + len ≤ length o = omega (arith, length-memory its other) in
    memory_overwritten reading before after target len (λ k. entry its other (source + k)) (piece o source len) some to
    (length-piece o source len source_in)
    (λ k small. sym (get_or-piece o source len k false small ∙ entry_memory its other (source + k) its_some)) is
