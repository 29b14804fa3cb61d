-- Indices that are held as the digits of a number: `held_none`, `held_first`, `held_last`, `length-held`.
--
-- How they come to be held: `held_ahead`; the digits: `whole_digits`, `last_digits`, `faced_digits`, `flipped_digit`.
--
-- What an iterator has left: `held_more`, `held_last_of_all`, `held_nothing`.
use Rattle.std.proofs.Common.{◌≡◌, ◌≢◌, ℕ, ◌+◌, ◌-◌, ◌*◌, ◌/◌, ◌%◌, ◌^◌, ◌<◌, ◌≤◌, ◌==◌}
use Rattle.std.proofs.Common.{zero, suc, Bool, true, false}
use Rattle.std.proofs.Common.{cond, not, List, [], ◌∷◌, ◌++◌, length}
use Rattle.std.proofs.Common.{get_or, count_by, min, bit_and}
use Rattle.std.proofs.Common.{refl, sym, ap, ◌∙◌, inl, inr, arith}
use Rattle.std.specs.Int.{bit_at, bit_not, trailing_zeros, w64}
use Rattle.std.specs.Int.RustNames.{count_ones}
use Rattle.std.proofs.Math.Nat.{two-pow-succ}
use Rattle.std.proofs.lemmas.List.{append-nil, ext_get_or}
use Rattle.std.proofs.lemmas.List.Sums.{sum_by-cons}
use Rattle.std.proofs.lemmas.Nat.{and_shr}
use Rattle.std.proofs.lemmas.Nat.Bits.{bit_at-suc, bit_at-zero, bit_at-lt, bit_at_lowest, bit_at_and, bit_at_not}
use Rattle.std.proofs.lemmas.Nat.Bits.{bit_at-trailing_zeros, bit_at_above, bit_at_clear_same, bit_at_clear_other}
use lib.Count.{count_trailing_zeros, under, ones_step, ones-le}
use Rattle.bit_addressing_memory.specs.Bits.{digit_at}
use Rattle.bit_addressing_memory.specs.Memory.{Reading, entry, memory, piece}
use Rattle.bit_addressing_memory.specs.declared.direction.Direction.{Direction}
use Rattle.bit_addressing_memory.specs.declared.direction.Direction.TheVariants.{Ascending, Descending}
use Rattle.bit_addressing_memory.specs.Straight.{straight}
use Rattle.bit_addressing_memory.proofs.MemoryLemmas.{length-piece, get_or-piece, piece_all, piece_join}
use Rattle.bit_addressing_memory.proofs.WindowLemmas.{window_bit}
use Rattle.bit_slice_chunks.specs.Chunk.{chunk_bit, IsChunk, IsCut, IsFaced}
use Rattle.bit_slice_chunks.proofs.TurnLemmas.{top_digit}
use Rattle.bit_slice_views.specs.Found.{is_bit}
use Rattle.bit_slice_iterators.specs.Indices.{indices, low_digits, held, AreDigits}
use Rattle.bit_slice_iterators.proofs.IndexLemmas.{cases_bool, indices-append, indices-no}
use Rattle.bit_slice_iterators.proofs.IndexLemmas.{length-indices}

-- ---- the digits of a number

pub length-low_digits : (w n : ℕ) → length (low_digits w n) ≡ w
unfolding low_digits
length-low_digits zero n = refl
length-low_digits (suc w) n = ap suc (length-low_digits w (n / 2))

pub get_or-low_digits : (w n k : ℕ) → k < w → get_or (low_digits w n) k false ≡ digit_at n k
unfolding low_digits
get_or-low_digits zero n k low = absurd (omega arith)
get_or-low_digits (suc w) n zero low = ap (λ d. d == 1) (sym (bit_at_lowest n))
get_or-low_digits (suc w) n (suc k) low =
    get_or-low_digits w (n / 2) k (omega arith) ∙ ap (λ d. d == 1) (sym (bit_at-suc n k))

-- its ones
cond_digit : (d : ℕ) → d < 2 → cond (d == 1) 1 0 ≡ d
cond_digit zero h = refl
cond_digit (suc zero) h = refl
cond_digit (suc (suc d)) h = absurd (omega arith)

ones_low_digits : (w n : ℕ) → n < 2 ^ w → count_by (is_bit true) (low_digits w n) ≡ count_ones n
unfolding low_digits
ones_low_digits zero n fits = omega (arith, ones-le 0 n fits)
ones_low_digits (suc w) n fits =
    let rest = ones_low_digits w (n / 2) (omega (arith, two-pow-succ w)) in
    let here : cond (n % 2 == 1) 1 0 ≡ n % 2 = cond_digit (n % 2) (omega arith) in
    let all = sum_by-cons (λ b. cond (is_bit true b) 1 0) (n % 2 == 1) (low_digits w (n / 2)) in
    omega (arith, ones_step n)

-- ---- indices of two lists

-- equal answers of two tests are equal indices, and what lies behind and does not pass adds none
indices-same : (test other : Bool → Bool) (from : ℕ) (xs ys : List Bool) → length xs ≤ length ys
    → ((k : ℕ) → k < length xs → test (get_or xs k false) ≡ other (get_or ys k false))
    → ((k : ℕ) → length xs ≤ k → k < length ys → other (get_or ys k false) ≡ false)
    → indices test from xs ≡ indices other from ys
indices-same test other from [] ys more same past = sym (indices-no other from ys (λ k low. past k (omega arith) low))
indices-same test other from (x ∷ xs) [] more same past = absurd (omega arith)
indices-same test other from (x ∷ xs) (y ∷ ys) more same past =
    let here : test x ≡ other y = same 0 (omega arith) in
    let rest : indices test (from + 1) xs ≡ indices other (from + 1) ys =
    indices-same test other (from + 1) xs ys (omega arith) (λ k low. same (suc k) (omega arith))
    (λ k high low. past (suc k) (omega arith) (omega arith)) in
    elim (cases_bool (other y)) [
      | inl passes ↦ rw (here, passes) (ap (λ l. from ∷ l) rest)
      | inr fails ↦ rw (here, fails) rest
    ]

-- two lists that differ in one bit, which is 1 in the first and 0 in the second
record ClearedAt (i : ℕ) (xs ys : List Bool) : Type 0 where
  size : length xs ≡ length ys
  low : i < length xs
  set : get_or xs i false ≡ true
  unset : get_or ys i false ≡ false
  others : (k : ℕ) → k < length xs → k ≢ i → get_or ys k false ≡ get_or xs k false

cleared_rest : (i : ℕ) (x y : Bool) (xs ys : List Bool) → ClearedAt (suc i) (x ∷ xs) (y ∷ ys) → ClearedAt i xs ys
cleared_rest i x y xs ys is = record {
  size = omega (arith, is.size);
  low = omega (arith, is.low);
  set = is.set;
  unset = is.unset;
  others = λ k low other. is.others (suc k) (omega arith) (λ e. other (omega arith));
}

cleared_same : (x y : Bool) (xs ys : List Bool) → ClearedAt zero (x ∷ xs) (y ∷ ys) → xs ≡ ys
cleared_same x y xs ys is =
    ext_get_or false xs ys (omega (arith, is.size)) (λ k low.
    sym (is.others (suc k) (omega arith) (λ e. omega arith)))

cleared_first : (from i : ℕ) (xs ys : List Bool) → ClearedAt i xs ys
    → ((k : ℕ) → k < i → get_or xs k false ≡ false)
    → indices (is_bit true) from xs ≡ (from + i) ∷ indices (is_bit true) from ys
cleared_first from i [] ys is before = absurd (omega (arith, is.low))
cleared_first from i (x ∷ xs) [] is before = absurd (omega (arith, is.size))
cleared_first from zero (x ∷ xs) (y ∷ ys) is before =
    let one : x ≡ true = is.set in
    let none : y ≡ false = is.unset in
    let same : xs ≡ ys = cleared_same x y xs ys is in
    let at : from + 0 ≡ from = omega arith in
    rw (one, none, same, at) refl
cleared_first from (suc i) (x ∷ xs) (y ∷ ys) is before =
    let none : x ≡ false = before 0 (omega arith) in
    let also : y ≡ false = is.others 0 (omega arith) (λ e. omega arith) ∙ none in
    let at : from + 1 + i ≡ from + suc i = omega arith in
    let rest : indices (is_bit true) (from + 1) xs ≡ (from + 1 + i) ∷ indices (is_bit true) (from + 1) ys =
    cleared_first (from + 1) i xs ys (cleared_rest i x y xs ys is) (λ k low. before (suc k) (omega arith)) in
    rw (none, also) (rest ∙ ap (λ n. n ∷ indices (is_bit true) (from + 1) ys) at)

cleared_last : (from i : ℕ) (xs ys : List Bool) → ClearedAt i xs ys
    → ((k : ℕ) → i < k → k < length xs → get_or xs k false ≡ false)
    → indices (is_bit true) from xs ≡ indices (is_bit true) from ys ++ (from + i) ∷ []
cleared_last from i [] ys is behind = absurd (omega (arith, is.low))
cleared_last from i (x ∷ xs) [] is behind = absurd (omega (arith, is.size))
cleared_last from zero (x ∷ xs) (y ∷ ys) is behind =
    let one : x ≡ true = is.set in
    let none : y ≡ false = is.unset in
    let same : xs ≡ ys = cleared_same x y xs ys is in
    let no : indices (is_bit true) (from + 1) xs ≡ [] =
    indices-no (is_bit true) (from + 1) xs (λ k low. behind (suc k) (omega arith) (omega arith)) in
    let at : from + 0 ≡ from = omega arith in
    rw (one, none, ← same, no, at) refl
cleared_last from (suc i) (x ∷ xs) (y ∷ ys) is behind =
    let same : y ≡ x = is.others 0 (omega arith) (λ e. omega arith) in
    let at : from + 1 + i ≡ from + suc i = omega arith in
    let rest : indices (is_bit true) (from + 1) xs ≡ indices (is_bit true) (from + 1) ys ++ (from + suc i) ∷ [] =
    cleared_last (from + 1) i xs ys (cleared_rest i x y xs ys is)
    (λ k high low. behind (suc k) (omega arith) (omega arith))
    ∙ ap (λ n. indices (is_bit true) (from + 1) ys ++ n ∷ []) at in
    elim (cases_bool x) [
      | inl one ↦ rw (same, one) (ap (λ l. from ∷ l) rest)
      | inr none ↦ rw (same, none) rest
    ]

-- ---- a number with one digit cleared

record ClearedDigit (i n m : ℕ) : Type 0 where
  low : i < 64
  set : bit_at n i ≡ 1
  unset : bit_at m i ≡ 0
  others : (k : ℕ) → k < 64 → k ≢ i → bit_at m k ≡ bit_at n k

cleared_digits : (i n m : ℕ) → ClearedDigit i n m → ClearedAt i (low_digits 64 n) (low_digits 64 m)
cleared_digits i n m is = record {
  size = length-low_digits 64 n ∙ sym (length-low_digits 64 m);
  low = omega (arith, length-low_digits 64 n, is.low);
  set = get_or-low_digits 64 n i is.low ∙ ap (λ d. d == 1) is.set;
  unset = get_or-low_digits 64 m i is.low ∙ ap (λ d. d == 1) is.unset;
  others = λ k low other.
      let small : k < 64 = omega (arith, length-low_digits 64 n) in
      get_or-low_digits 64 m k small
      ∙ ap (λ d. d == 1) (is.others k small other)
      ∙ sym (get_or-low_digits 64 n k small);
}

-- `n & (n - 1)` clears the lowest one
lowest_by : (n t d j : ℕ) → 0 < n → n % 2 ≡ d
    → (n % 2 ≡ 0 → (j : ℕ) → j ≢ t → bit_at (bit_and (n / 2) (n / 2 - 1)) j ≡ bit_at (n / 2) j)
    → j ≢ under d t → bit_at (bit_and n (n - 1)) j ≡ bit_at n j
lowest_by n t zero zero some is rest other =
    omega (arith, bit_at_lowest n, bit_at_lowest (n - 1), bit_at_and n (n - 1) 0, bit_at-lt n 0)
lowest_by n t zero (suc j) some is rest other =
    let half : (n - 1) / 2 ≡ n / 2 - 1 = omega arith in
    bit_at-suc (bit_and n (n - 1)) j
    ∙ ap (λ x. bit_at x j) (and_shr n (n - 1) 1 ∙ ap (bit_and (n / 2)) half)
    ∙ rest is j (λ e. other (ap suc e))
    ∙ sym (bit_at-suc n j)
lowest_by n t (suc d) zero some is rest other = absurd (other refl)
lowest_by n t (suc d) (suc j) some is rest other =
    let half : (n - 1) / 2 ≡ n / 2 = omega arith in
    let same : bit_at (n - 1) (suc j) ≡ bit_at n (suc j) =
    bit_at-suc (n - 1) j ∙ ap (λ x. bit_at x j) half ∙ sym (bit_at-suc n j) in
    omega (arith, bit_at_and n (n - 1) (suc j))

lowest_others : (w n j : ℕ) → 0 < n → n < 2 ^ w → j ≢ count_trailing_zeros w n
    → bit_at (bit_and n (n - 1)) j ≡ bit_at n j
unfolding count_trailing_zeros
lowest_others zero n j some fits other = absurd (omega arith)
lowest_others (suc w) n j some fits other =
    lowest_by n (count_trailing_zeros w (n / 2)) (n % 2) j some refl
    (λ even k apart. lowest_others w (n / 2) k (omega arith) (omega (arith, two-pow-succ w)) apart) other

lowest_by_here : (n t d : ℕ) → 0 < n → n % 2 ≡ d
    → (n % 2 ≡ 0 → bit_at (bit_and (n / 2) (n / 2 - 1)) t ≡ 0)
    → bit_at (bit_and n (n - 1)) (under d t) ≡ 0
lowest_by_here n t zero some is rest =
    let half : (n - 1) / 2 ≡ n / 2 - 1 = omega arith in
    bit_at-suc (bit_and n (n - 1)) t
    ∙ ap (λ x. bit_at x t) (and_shr n (n - 1) 1 ∙ ap (bit_and (n / 2)) half)
    ∙ rest is
lowest_by_here n t (suc d) some is rest =
    omega (arith, bit_at_lowest (n - 1), bit_at_and n (n - 1) 0)

lowest_here : (w n : ℕ) → 0 < n → n < 2 ^ w → bit_at (bit_and n (n - 1)) (count_trailing_zeros w n) ≡ 0
unfolding count_trailing_zeros
lowest_here zero n some fits = absurd (omega arith)
lowest_here (suc w) n some fits =
    lowest_by_here n (count_trailing_zeros w (n / 2)) (n % 2) some refl
    (λ even. lowest_here w (n / 2) (omega arith) (omega (arith, two-pow-succ w)))

-- ---- what a number holds

pub held_none : (base : ℕ) → held base 0 ≡ []
held_none base = indices-no (is_bit true) base (low_digits 64 0) (λ k low.
    get_or-low_digits 64 0 k (omega (arith, length-low_digits 64 0)) ∙ ap (λ d. d == 1) (bit_at-zero k))

-- as many as it has ones
pub length-held : (base n : ℕ) → n < 2 ^ 64 → length (held base n) ≡ count_ones n
length-held base n fits = length-indices (is_bit true) base (low_digits 64 n) ∙ ones_low_digits 64 n fits

-- the first of them
pub held_first : (base n : ℕ) → 0 < n → n < 2 ^ 64
    → held base n ≡ (base + trailing_zeros w64 n) ∷ held base (bit_and n (n - 1))
held_first base n some fits =
    let first = bit_at-trailing_zeros w64 n some fits in
    let is : ClearedDigit (trailing_zeros w64 n) n (bit_and n (n - 1)) = record {
      low = first.0;
      set = first.1;
      unset = lowest_here 64 n some fits;
      others = λ k low other. lowest_others 64 n k some fits other;
    } in
    cleared_first base (trailing_zeros w64 n) (low_digits 64 n) (low_digits 64 (bit_and n (n - 1)))
    (cleared_digits (trailing_zeros w64 n) n (bit_and n (n - 1)) is)
    (λ k before. get_or-low_digits 64 n k (omega (arith, first.0)) ∙ ap (λ d. d == 1) (first.2 k before))

-- the last of them
pub held_last : (base n k : ℕ) → 2 ^ k ≤ n → n < 2 * 2 ^ k → k < 64
    → held base n ≡ held base (bit_and n (bit_not w64 (1 * 2 ^ k % 2 ^ 64))) ++ (base + k) ∷ []
held_last base n k least most low =
    let m : ℕ = bit_and n (bit_not w64 (1 * 2 ^ k % 2 ^ 64)) in
    let is : ClearedDigit k n m = record {
      low = low;
      set = top_digit n k least most;
      unset = bit_at_clear_same w64 n k low;
      others = λ j small other. bit_at_clear_other w64 n k low j small other;
    } in
    let fits : n < 2 ^ suc k = omega (arith, two-pow-succ k) in
    cleared_last base k (low_digits 64 n) (low_digits 64 m) (cleared_digits k n m is)
    (λ j high small. get_or-low_digits 64 n j (omega (arith, length-low_digits 64 n))
    ∙ ap (λ d. d == 1) (bit_at_above n (suc k) j fits (omega arith)))

-- ---- indices taken from a list

-- a digit of a chunk has a position below 64
straight_low : (direction : Direction) (k : ℕ) → k < 64 → straight 64 direction k < 64
straight_low Ascending k low = low
straight_low Descending k low = omega arith

digits_shown : {R : Type 0} (reading : Reading R) (words : List R) (head len from count n r : ℕ)
    (direction : Direction) (test : Bool → Bool) (bits : List Bool) → 0 < reading.bits
    → bits ≡ piece (memory reading words) head len → from + count ≤ len
    → IsChunk reading words (head + from) count direction n
    → ((k : ℕ) → k < count → chunk_bit direction r k ≡ test (chunk_bit direction n k))
    → (k : ℕ) → k < count → chunk_bit direction r k ≡ test (get_or bits (from + k) false)
digits_shown reading words head len from count n r direction test bits some is_bits within chunk same k low =
    let place : head + (from + k) ≡ head + from + k = omega arith in
    same k low
    ∙ ap test (chunk.inside k low
    ∙ sym (ap (λ xs. get_or xs (from + k) false) is_bits
    ∙ window_bit reading words head len (from + k) some (omega arith)
    ∙ ap (entry reading words) place))

-- 64 bits of a window, tested
pub whole_digits : {R : Type 0} (reading : Reading R) (words : List R) (head len from n r : ℕ) (direction : Direction)
    (test : Bool → Bool) (bits : List Bool) → 0 < reading.bits → bits ≡ piece (memory reading words) head len
    → len ≡ length bits → from + 64 ≤ len → IsChunk reading words (head + from) 64 direction n
    → ((k : ℕ) → k < 64 → digit_at r k ≡ test (digit_at n k)) → AreDigits direction test bits from r
whole_digits reading words head len from n r direction test bits some is_bits size within chunk same = record {
  inside = λ k small low. digits_shown reading words head len from 64 n r direction test bits some is_bits within chunk
      (λ j less. same (straight 64 direction j) (straight_low direction j less)) k small;
  past = λ k small high. absurd (omega arith);
}

-- the last bits of one
pub last_digits : {R : Type 0} (reading : Reading R) (words : List R) (head len from count n m r : ℕ)
    (direction : Direction) (test : Bool → Bool) (bits : List Bool) → 0 < reading.bits
    → bits ≡ piece (memory reading words) head len → len ≡ length bits → from + count ≡ len → count ≤ 64
    → IsChunk reading words (head + from) count direction n
    → ((k : ℕ) → k < 64 → digit_at m k ≡ test (digit_at n k)) → IsCut direction m count r
    → AreDigits direction test bits from r
last_digits reading words head len from count n m r direction test bits some is_bits size within few chunk same cut =
    record {
      inside = λ k small low. digits_shown reading words head len from count n r direction test bits some is_bits
          (omega arith) chunk
          (λ j less. cut.inside j less
          ∙ same (straight 64 direction j) (straight_low direction j (omega arith))) k (omega arith);
      past = λ k small high. cut.past k (omega arith) small;
    }

-- the same digits in another direction
pub faced_digits : (direction : Direction) (test : Bool → Bool) (bits : List Bool) (from n r : ℕ)
    → AreDigits direction test bits from n → IsFaced direction Ascending n r → AreDigits Ascending test bits from r
faced_digits direction test bits from n r is same = record {
  inside = λ k small low. same k small ∙ is.inside k small low;
  past = λ k small high. same k small ∙ is.past k small high;
}

-- the digits of a number that has them flipped
pub flipped_digit : (n k : ℕ) → n < 2 ^ 64 → k < 64 → digit_at (bit_not w64 n) k ≡ not (digit_at n k)
flipped_digit n k fits low =
    ap (λ d. d == 1) (bit_at_not w64 n k fits low) ∙ flipped (bit_at n k) (bit_at-lt n k)
  where
    flipped : (d : ℕ) → d < 2 → (1 - d == 1) ≡ not (d == 1)
    flipped zero small = refl
    flipped (suc zero) small = refl
    flipped (suc (suc d)) small = absurd (omega arith)

-- the indices that the digits of the first bits hold, and those of the bits behind
pub held_ahead : (test : Bool → Bool) (bits : List Bool) (from n count : ℕ) → count ≡ min (length bits) 64
    → AreDigits Ascending test bits 0 n
    → indices test from bits
    ≡ held from n ++ indices test (from + count) (piece bits count (length bits - count))
held_ahead test bits from n count is_count is =
    let front : List Bool = piece bits 0 count in
    let rest : List Bool = piece bits count (length bits - count) in
    let size : length front ≡ count = length-piece bits 0 count (omega arith) in
    let wide : length (low_digits 64 n) ≡ 64 = length-low_digits 64 n in
    let whole : bits ≡ front ++ rest =
    sym (piece_join bits 0 count count (length bits - count) (length bits) (omega arith) (omega arith)
    ∙ piece_all bits (length bits) refl) in
    let shown : indices test from front ≡ held from n =
    indices-same test (is_bit true) from front (low_digits 64 n) (omega arith)
    (λ k low.
    let small : k < count = omega arith in
    ap test (get_or-piece bits 0 count k false small)
    ∙ sym (is.inside k (omega arith) (omega arith))
    ∙ sym (get_or-low_digits 64 n k (omega arith)))
    (λ k high low. get_or-low_digits 64 n k (omega arith) ∙ is.past k (omega arith) (omega arith)) in
    ap (indices test from) whole
    ∙ indices-append test from front rest
    ∙ ap (λ l. l ++ indices test (from + length front) rest) shown
    ∙ ap (λ m. held from n ++ indices test (from + m) rest) size

-- ---- what an iterator has left

-- more is held, where nothing was
pub held_more : (test : Bool → Bool) (bits rest : List Bool) (was had from n count next : ℕ) → had ≡ 0
    → count ≡ min (length bits) 64 → AreDigits Ascending test bits 0 n → next ≡ from + count
    → rest ≡ piece bits count (length bits - count)
    → held from n ++ indices test next rest ≡ held was had ++ indices test from bits
held_more test bits rest was had from n count next none is_count is is_next is_rest = sym (
    ap (λ m. held was m ++ indices test from bits) none
    ∙ ap (λ l. l ++ indices test from bits) (held_none was)
    ∙ held_ahead test bits from n count is_count is
    ∙ ap (λ m. held from n ++ indices test m (piece bits count (length bits - count))) (sym is_next)
    ∙ ap (λ xs. held from n ++ indices test next xs) (sym is_rest)
    )

-- the last of those that are held is the last of all, where the others are none
pub held_last_of_all : (now left rest : List ℕ) (base n m at : ℕ) → now ≡ held base n ++ left → left ≡ []
    → rest ≡ [] → held base n ≡ held base m ++ at ∷ [] → now ≡ (held base m ++ rest) ++ at ∷ []
held_last_of_all now left rest base n m at is none none' last =
    is
    ∙ ap (λ l. held base n ++ l) none
    ∙ append-nil (held base n)
    ∙ last
    ∙ ap (λ l. l ++ at ∷ []) (sym (append-nil (held base m)) ∙ ap (λ l. held base m ++ l) (sym none'))

-- none is left
pub held_nothing : (left : List ℕ) (base n : ℕ) → n ≡ 0 → left ≡ [] → held base n ++ left ≡ []
held_nothing left base n empty none =
    ap (λ m. held base m ++ left) empty ∙ ap (λ l. l ++ left) (held_none base) ∙ none
