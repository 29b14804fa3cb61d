-- The true bits of words and of memories.
--
-- Pieces: `trues_join`, `trues_empty`, `trues_short`. One word: `trues_part`, `ones_digits`, `ones_part`. Word by word:
-- `ones_more`, `ones_bound`, `trues_all`, `trues_orders`. A stretch: `trues_one`, `trues_cut` (cut at its edges),
-- `trues_fit`, `falses_are`.
use Rattle.bit_addressing_memory.proofs.Common.{◌≡◌, ℕ, ◌+◌, ◌-◌, ◌*◌, ◌^◌, ◌<◌, ◌≤◌, Bool, false}
use Rattle.bit_addressing_memory.proofs.Common.{not, List, [], ◌∷◌, ◌++◌}
use Rattle.bit_addressing_memory.proofs.Common.{Option, length, take, drop, get_or, count_by, refl, sym, ap, ◌∙◌}
use Rattle.bit_addressing_memory.proofs.Common.{arith, Reading, reading_in, digits, memory, piece, IsMasked}
use Rattle.std.specs.Int.RustNames.{count_ones}
use Rattle.std.proofs.Math.Nat.{mul-le-mul_right}
use Rattle.std.proofs.lemmas.List.{ext_get_or}
use Rattle.std.proofs.lemmas.List.FromFn.{get_or-map-range_with_len, length-map-range_with_len}
use Rattle.std.proofs.lemmas.List.Sums.{count_by-le-length}
use Rattle.bit_addressing_memory.specs.BitOrder.{IsLawful}
use Rattle.bit_addressing_memory.proofs.MemoryLemmas.{length-memory, piece_join, piece_all, piece_none, length-piece}
use Rattle.bit_addressing_memory.proofs.MemoryLemmas.{get_or-piece, word_whole}
use Rattle.bit_slice_words.proofs.EdgeLemmas.{cut_one, cut_more}
use Rattle.bit_slice_words.proofs.OnesLemmas.{trues, trues-append, trues_none, trues-falses, ones_in_order}

-- ---- pieces

-- two pieces end to end
pub trues_join : (xs : List Bool) (p x q y n : ℕ) → q ≡ p + x → n ≡ x + y
    → trues (piece xs p n) ≡ trues (piece xs p x) + trues (piece xs q y)
trues_join xs p x q y n next all =
    ap trues (sym (piece_join xs p x q y n next all)) ∙ trues-append (piece xs p x) (piece xs q y)

-- a piece of no bits has none
pub trues_empty : (xs : List Bool) (p n : ℕ) → n ≡ 0 → 0 ≡ trues (piece xs p n)
trues_empty xs p n e = sym (ap trues (piece_none xs p n e))

-- a piece has as many at most as bits
pub trues_short : (xs : List Bool) (p n : ℕ) → p + n ≤ length xs → trues (piece xs p n) ≤ n
trues_short xs p n fits = omega (arith, count_by-le-length (λ b. b) (piece xs p n), length-piece xs p n fits)

piece_false : (xs : List Bool) (p n : ℕ) → p + n ≤ length xs
    → ((k : ℕ) → p ≤ k → k < p + n → get_or xs k false ≡ false) → trues (piece xs p n) ≡ 0
piece_false xs p n fits none = trues_none (piece xs p n) (λ k low.
    let small : k < n = omega (arith, length-piece xs p n fits) in
    get_or-piece xs p n k false small ∙ none (p + k) (omega arith) (omega arith))

-- a list that has the bits of another in a window, and false outside
trues_window : (xs ys : List Bool) (from n : ℕ) → length xs ≡ length ys → from + n ≤ length xs
    → ((k : ℕ) → from ≤ k → k < from + n → get_or xs k false ≡ get_or ys k false)
    → ((k : ℕ) → k < from → get_or xs k false ≡ false)
    → ((k : ℕ) → from + n ≤ k → k < length xs → get_or xs k false ≡ false)
    → trues xs ≡ trues (piece ys from n)
trues_window xs ys from n size fits inside low high =
    let rest : ℕ = length xs - (from + n) in
    let all : trues (piece xs 0 (length xs)) ≡ trues xs = ap trues (piece_all xs (length xs) refl) in
    let front : trues (piece xs 0 (length xs)) ≡ trues (piece xs 0 from) + trues (piece xs from (n + rest)) =
    trues_join xs 0 from from (n + rest) (length xs) (omega arith) (omega arith) in
    let back : trues (piece xs from (n + rest)) ≡ trues (piece xs from n) + trues (piece xs (from + n) rest) =
    trues_join xs from n (from + n) rest (n + rest) refl refl in
    let none_low : trues (piece xs 0 from) ≡ 0 =
    piece_false xs 0 from (omega arith) (λ k _ small. low k (omega arith)) in
    let none_high : trues (piece xs (from + n) rest) ≡ 0 =
    piece_false xs (from + n) rest (omega arith) (λ k least small. high k least (omega arith)) in
    let same : piece xs from n ≡ piece ys from n = ext_get_or false (piece xs from n) (piece ys from n)
    (length-piece xs from n fits ∙ sym (length-piece ys from n (omega arith)))
    (λ k small.
    let within : k < n = omega (arith, length-piece xs from n fits) in
    get_or-piece xs from n k false within
    ∙ inside (from + k) (omega arith) (omega arith)
    ∙ sym (get_or-piece ys from n k false within)) in
    let window : trues (piece xs from n) ≡ trues (piece ys from n) = ap trues same in
    omega arith

-- ---- words

-- an element of a word's digits is a digit
pub get_or-digits : {R : Type 0} (reading : Reading R) (w : R) (k : ℕ) → k < reading.bits
    → get_or (digits reading w) k false ≡ reading.digit w k
get_or-digits reading w k small =
    get_or-map-range_with_len (reading.digit w) 0 reading.bits k k false small (omega arith)

-- a word has as many digits as bits
pub length-digits : {R : Type 0} (reading : Reading R) (w : R) → length (digits reading w) ≡ reading.bits
length-digits reading w = length-map-range_with_len (reading.digit w) 0 reading.bits

-- the true bits of a masked word are those of the part
pub trues_part : {R : Type 0} (reading : Reading R) (word result : R) (from upto : ℕ) → from ≤ upto
    → upto ≤ reading.bits → IsMasked reading word result from upto
    → trues (digits reading result) ≡ trues (piece (digits reading word) from (upto - from))
trues_part reading word result from upto order within is =
    let xs : List Bool = digits reading result in
    let size : length xs ≡ reading.bits = length-digits reading result in
    trues_window xs (digits reading word) from (upto - from)
    (size ∙ sym (length-digits reading word)) (omega arith)
    (λ k low high.
    get_or-digits reading result k (omega arith)
    ∙ is.inside k low (omega arith) (omega arith)
    ∙ sym (get_or-digits reading word k (omega arith)))
    (λ k low. get_or-digits reading result k (omega arith) ∙ is.below k low (omega arith))
    (λ k high small. get_or-digits reading result k (omega arith) ∙ is.above k (omega arith) (omega arith))

-- the ones of a word are the true ones of its digits
pub ones_digits : {R : Type 0} (b : ℕ) (number : R → ℕ) (at select : ℕ → ℕ) (mask : Option ℕ → Option ℕ → ℕ) (w : R)
    → IsLawful b at select mask → number w < 2 ^ b → count_ones (number w) ≡ trues (digits (reading_in b number at) w)
ones_digits b number at select mask w law fits = ones_in_order b at select mask (number w) law fits

-- the ones of a masked word are the true bits of the part
pub ones_part : {R : Type 0} (b : ℕ) (number : R → ℕ) (at select : ℕ → ℕ) (mask : Option ℕ → Option ℕ → ℕ)
    (word result : R) (from upto from' upto' ones : ℕ) → IsLawful b at select mask → number result < 2 ^ b
    → from' ≡ from → upto' ≡ upto → from ≤ upto → upto ≤ b
    → IsMasked (reading_in b number at) word result from' upto' → ones ≡ count_ones (number result)
    → ones ≡ trues (piece (digits (reading_in b number at) word) from (upto - from))
ones_part b number at select mask word result from upto from' upto' ones law fits same_from same_upto order within is
    now =
    let reading = reading_in b number at in
    let masked = rw (same_from, same_upto) at is in
    let digit = ones_digits b number at select mask result law fits in
    now ∙ digit ∙ trues_part reading word result from upto order within masked

-- ---- word by word

-- one word more
trues_more : {R : Type 0} (reading : Reading R) (words : List R) (j : ℕ) (x : R) → j < length words
    → x ≡ get_or words j x
    → trues (piece (memory reading words) 0 ((j + 1) * reading.bits))
    ≡ trues (piece (memory reading words) 0 (j * reading.bits)) + trues (digits reading x)
trues_more reading words j x low is =
    let b : ℕ = reading.bits in
    let m = memory reading words in
    trues_join m 0 (j * b) (j * b) b ((j + 1) * b) (omega arith) (omega arith)
    ∙ ap (λ k. trues (piece m 0 (j * b)) + k) (ap trues (sym (word_whole reading words j x low is)))

-- the ones of one word more
pub ones_more : {R : Type 0} (b : ℕ) (number : R → ℕ) (at select : ℕ → ℕ) (mask : Option ℕ → Option ℕ → ℕ)
    (words : List R) (j : ℕ) (x : R) (ones o : ℕ) → IsLawful b at select mask → number x < 2 ^ b → j < length words
    → x ≡ get_or words j x → o ≡ count_ones (number x)
    → ones ≡ trues (piece (memory (reading_in b number at) words) 0 (j * b))
    → ones + o ≡ trues (piece (memory (reading_in b number at) words) 0 ((j + 1) * b))
ones_more b number at select mask words j x ones o law fits low is now before =
    let reading = reading_in b number at in
    let here : count_ones (number x) ≡ trues (digits reading x) = ones_digits b number at select mask x law fits in
    let more : trues (piece (memory reading words) 0 ((j + 1) * b))
    ≡ trues (piece (memory reading words) 0 (j * b)) + trues (digits reading x) =
    trues_more reading words j x low is in
    omega arith

-- they are at most as many as the words have bits
pub ones_bound : {R : Type 0} (b : ℕ) (number : R → ℕ) (at select : ℕ → ℕ) (mask : Option ℕ → Option ℕ → ℕ)
    (words : List R) (j : ℕ) (x : R) (ones o : ℕ) → IsLawful b at select mask → number x < 2 ^ b → j < length words
    → x ≡ get_or words j x → o ≡ count_ones (number x)
    → ones ≡ trues (piece (memory (reading_in b number at) words) 0 (j * b))
    → ones + o ≤ length words * b
ones_bound b number at select mask words j x ones o law fits low is now before =
    let m = memory (reading_in b number at) words in
    let more = ones_more b number at select mask words j x ones o law fits low is now before in
    let most : (j + 1) * b ≤ length words * b = mul-le-mul_right b (omega arith) in
    let short : trues (piece m 0 ((j + 1) * b)) ≤ (j + 1) * b =
    trues_short m 0 ((j + 1) * b) (omega (arith, length-memory (reading_in b number at) words)) in
    omega arith

-- all words
pub trues_all : {R : Type 0} (reading : Reading R) (words : List R) (j ones : ℕ) → j ≡ length words
    → ones ≡ trues (piece (memory reading words) 0 (j * reading.bits)) → ones ≡ trues (memory reading words)
trues_all reading words j ones all is =
    let size : length (memory reading words) ≡ j * reading.bits =
    length-memory reading words ∙ ap (λ k. k * reading.bits) (sym all) in
    is ∙ ap trues (piece_all (memory reading words) (j * reading.bits) size)

-- words have as many true bits in one lawful order as in another
pub trues_orders : {R : Type 0} (b : ℕ) (number : R → ℕ) (at its select its_select : ℕ → ℕ)
    (mask its_mask : Option ℕ → Option ℕ → ℕ) (words : List R) → IsLawful b at select mask
    → IsLawful b its its_select its_mask → ((x : R) → number x < 2 ^ b)
    → trues (memory (reading_in b number at) words) ≡ trues (memory (reading_in b number its) words)
unfolding memory
trues_orders b number at its select its_select mask its_mask [] law its_law fits = refl
trues_orders b number at its select its_select mask its_mask (x ∷ xs) law its_law fits =
    let mine = reading_in b number at in
    let other = reading_in b number its in
    let sum : trues (digits mine x ++ memory mine xs) ≡ trues (digits mine x) + trues (memory mine xs) =
    trues-append (digits mine x) (memory mine xs) in
    let its_sum : trues (digits other x ++ memory other xs) ≡ trues (digits other x) + trues (memory other xs) =
    trues-append (digits other x) (memory other xs) in
    omega (
      arith,
      sum,
      its_sum,
      ones_digits b number at select mask x law (fits x),
      ones_digits b number its its_select its_mask x its_law (fits x),
      trues_orders b number at its select its_select mask its_mask xs law its_law fits,
    )

-- ---- a stretch

-- inside one word, it has those of the word's part
pub trues_one : {R : Type 0} (reading : Reading R) (words : List R) (place len first from last upto : ℕ) (x : R)
    (ones : ℕ) → first * reading.bits + from ≡ place → last * reading.bits + upto ≡ place + len → first ≡ last
    → upto ≤ reading.bits → 0 < len → first < length words → x ≡ get_or words first x
    → ones ≡ trues (piece (digits reading x) from (upto - from))
    → ones ≡ trues (piece (memory reading words) place len)
trues_one reading words place len first from last upto x ones start end same within some low is now =
    let row : first * reading.bits ≡ last * reading.bits = ap (λ k. k * reading.bits) same in
    now
    ∙ ap trues (cut_one reading words place len first from last upto x start end same (omega arith) within low is)

-- cut at its edges, it has those of the first word's part, of the words between, and of the last word's part
pub trues_cut : {R : Type 0} (reading : Reading R) (words body : List R)
    (place len first from last upto top : ℕ) (x y : R) (head mid tail : ℕ)
    → first * reading.bits + from ≡ place → last * reading.bits + upto ≡ place + len → first < last
    → from ≤ reading.bits → upto ≤ reading.bits → last < length words
    → x ≡ get_or words first x → y ≡ get_or words last y → body ≡ take (last - (first + 1)) (drop (first + 1) words)
    → top ≡ reading.bits → head ≡ trues (piece (digits reading x) from (top - from)) → mid ≡ trues (memory reading body)
    → tail ≡ trues (piece (digits reading y) 0 (upto - 0))
    → head + mid + tail ≡ trues (piece (memory reading words) place len)
trues_cut reading words body place len first from last upto top x y head mid tail start end more index within low is_x
    is_y is_body full is_head is_mid is_tail =
    let xs = piece (digits reading x) from (reading.bits - from) in
    let ys = piece (digits reading y) 0 upto in
    let all = ap trues (cut_more reading words body place len first from last upto x y start end more index within low
    is_x is_y is_body) in
    let one : trues (xs ++ (memory reading body ++ ys)) ≡ trues xs + trues (memory reading body ++ ys) =
    trues-append xs (memory reading body ++ ys) in
    let two : trues (memory reading body ++ ys) ≡ trues (memory reading body) + trues ys =
    trues-append (memory reading body) ys in
    let of_head : head ≡ trues xs = is_head ∙ ap (λ k. trues (piece (digits reading x) from (k - from))) full in
    let none : upto - 0 ≡ upto = omega arith in
    let of_tail : tail ≡ trues ys = is_tail ∙ ap (λ k. trues (piece (digits reading y) 0 k)) none in
    omega arith

-- it has at most as many as bits
pub trues_fit : {R : Type 0} (reading : Reading R) (words : List R) (place len n : ℕ)
    → place + len ≤ length words * reading.bits → n ≡ trues (piece (memory reading words) place len) → n ≤ len
trues_fit reading words place len n fits is =
    let short : trues (piece (memory reading words) place len) ≤ len =
    trues_short (memory reading words) place len (omega (arith, length-memory reading words)) in
    omega arith

-- the false ones are the others
pub falses_are : {R : Type 0} (reading : Reading R) (words : List R) (place len n : ℕ)
    → place + len ≤ length words * reading.bits → n ≡ trues (piece (memory reading words) place len)
    → len - n ≡ count_by (λ b. not b) (piece (memory reading words) place len)
falses_are reading words place len n fits is =
    let xs = piece (memory reading words) place len in
    let size : length xs ≡ len =
    length-piece (memory reading words) place len (omega (arith, length-memory reading words)) in
    let both : trues xs + count_by (λ b. not b) xs ≡ length xs = trues-falses xs in
    omega arith
