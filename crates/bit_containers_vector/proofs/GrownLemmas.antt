-- What a vector of bits shows that has grown: `grown_bits`, `grown_words`.
use Rattle.std.proofs.Common.{◌≡◌, ℕ, zero, suc, ◌+◌, ◌-◌, ◌*◌, ◌<◌, ◌≤◌, Bool, false, List, ◌++◌, length}
use Rattle.std.proofs.Common.{take, replicate, get_or, arith, ap, ap₂, sym, ◌∙◌, refl, length-append}
use Rattle.std.proofs.lemmas.List.{places, same_lists, take_all, length-replicate, length-take-le}
use Rattle.std.proofs.lemmas.List.FromFn.{length-map-range_with_len, get_or-map-range_with_len}
use Rattle.std.proofs.Common.{zero-add}
use Rattle.bit_addressing_memory.specs.Memory.{Reading, memory, digits, piece, with_piece, Overwrites}
use Rattle.bit_addressing_memory.proofs.MemoryLemmas.{length-memory, memory-append, memory-take, memory_overwritten}
use Rattle.bit_containers_vector.specs.Count.{words_for}
use Rattle.bit_containers_vector.proofs.CountLemmas.{words_hold, words_within, words_more}

-- words without a digit that is 1
pub zero_words : {R : Type 0} (reading : Reading R) (z : R) (n : ℕ) → ((i : ℕ) → reading.digit z i ≡ false)
    → memory reading (replicate n z) ≡ replicate (n * reading.bits) false
unfolding memory
zero_words reading z zero none = let product : 0 * reading.bits ≡ 0 = omega arith in rw product refl
zero_words reading z (suc n) none =
    let one : digits reading z ≡ replicate reading.bits false =
    same_lists _ _
    (length-map-range_with_len (reading.digit z) 0 reading.bits ∙ sym (length-replicate reading.bits false))
    (λ k d inside.
    let low : k < reading.bits = omega (arith, length-map-range_with_len (reading.digit z) 0 reading.bits) in
    get_or-map-range_with_len (reading.digit z) 0 reading.bits k k d low (zero-add k) ∙ none k
    ∙ sym (grind (arith, places))) in
    let product : suc n * reading.bits ≡ reading.bits + n * reading.bits = omega arith in
    ap₂ (λ x y. x ++ y) one (zero_words reading z n none)
    ∙ rw product (same_lists _ _ (grind (arith, places)) (λ k d inside. grind (arith, places)))

-- a piece with more written behind it
piece_longer : (xs ys : List Bool) (h n m : ℕ) → length ys ≡ m → h + n + m ≤ length xs
    → piece (with_piece xs (h + n) ys) h (n + m) ≡ piece xs h n ++ ys
unfolding piece with_piece
piece_longer xs ys h n m size fits = same_lists _ _ (grind (arith, places)) (λ k d inside. grind (arith, places))

-- a piece of a beginning
pub piece_front : (xs ys : List Bool) (h n : ℕ) → h + n ≤ length xs → piece (xs ++ ys) h n ≡ piece xs h n
unfolding piece
piece_front xs ys h n fits = same_lists _ _ (grind (arith, places)) (λ k d inside. grind (arith, places))

-- a piece of the first words
pub piece_taken : {R : Type 0} (reading : Reading R) (words : List R) (w h n : ℕ) → w ≤ length words
    → h + n ≤ w * reading.bits → piece (memory reading (take w words)) h n ≡ piece (memory reading words) h n
unfolding piece
piece_taken reading words w h n within fits =
    ap (λ m. piece m h n) (memory-take reading words w within)
    ∙ same_lists _ _ (grind (arith, places, length-memory reading words)) (λ k d inside. grind (arith, places))

module _ {R : Type 0} (reading : Reading R) (z : R) (words grown written : List R) (h n m more : ℕ) (now : ℕ → Bool)
    (ys : List Bool) (some : 0 < reading.bits) (none : (i : ℕ) → reading.digit z i ≡ false)
    (fits : h + n ≤ length words * reading.bits)
    (is_more : more ≡ words_for reading.bits (h + (n + m)) - words_for reading.bits (h + n))
    (is_grown : grown ≡ take (words_for reading.bits (h + n)) words ++ replicate more z)
    (count : length ys ≡ m) (same : (k : ℕ) → k < m → now k ≡ get_or ys k false)
    (is_written : Overwrites reading grown written (h + n) m now) where
  abbrev old_words : List R
  old_words = take (words_for reading.bits (h + n)) words

  within : words_for reading.bits (h + n) ≤ length words
  within = words_within reading.bits (h + n) (length words) some fits

  old_count : length old_words ≡ words_for reading.bits (h + n)
  old_count = length-take-le (words_for reading.bits (h + n)) words within

  new_count : length written ≡ words_for reading.bits (h + (n + m))
  new_count =
      let ends : h + n + m ≡ h + (n + m) = omega arith in
      let least : words_for reading.bits (h + n) ≤ words_for reading.bits (h + (n + m)) =
      rw (← ends) (words_more reading.bits (h + n) m some) in
      is_written.words ∙ ap length is_grown ∙ length-append old_words (replicate more z)
      ∙ omega (arith, old_count, length-replicate more z)

  enough : h + n + m ≤ length written * reading.bits
  enough =
      let product : length written * reading.bits ≡ words_for reading.bits (h + (n + m)) * reading.bits =
      ap (λ k. k * reading.bits) new_count in
      omega (arith, words_hold reading.bits (h + (n + m)) some)

  middle : memory reading grown ≡ memory reading old_words ++ replicate (more * reading.bits) false
  middle =
      ap (memory reading) is_grown ∙ memory-append reading old_words (replicate more z)
      ∙ ap (λ xs. memory reading old_words ++ xs) (zero_words reading z more none)

  all : memory reading written
      ≡ with_piece (memory reading old_words ++ replicate (more * reading.bits) false) (h + n) ys
  all =
      let size : length grown ≡ length written = sym is_written.words in
      memory_overwritten reading grown written (h + n) m now ys some (rw size enough) count same is_written
      ∙ ap (λ xs. with_piece xs (h + n) ys) middle

  pub grown_bits : piece (memory reading written) h (n + m) ≡ piece (memory reading words) h n ++ ys
  grown_bits =
      let size : length (memory reading old_words ++ replicate (more * reading.bits) false)
      ≡ length written * reading.bits =
      sym (ap length middle) ∙ length-memory reading grown ∙ ap (λ k. k * reading.bits) (sym is_written.words) in
      let taken : h + n ≤ words_for reading.bits (h + n) * reading.bits = words_hold reading.bits (h + n) some in
      let in_old : h + n ≤ length (memory reading old_words) =
      omega (arith, length-memory reading old_words, ap (λ k. k * reading.bits) old_count) in
      ap (λ xs. piece xs h (n + m)) all
      ∙ piece_longer _ ys h n m count (omega (arith, enough, size))
      ∙ ap (λ xs. xs ++ ys)
      (piece_front (memory reading old_words) (replicate (more * reading.bits) false) h n in_old
      ∙ piece_taken reading words (words_for reading.bits (h + n)) h n within taken)

  -- as many visible words as there are
  pub grown_visible : (k : ℕ) → k ≡ n + m → take (words_for reading.bits (h + k)) written ≡ written
  grown_visible k is = rw is (take_all (words_for reading.bits (h + (n + m))) written (omega (arith, new_count)))

  pub grown_words : (old new : List R) (l : ℕ) → old ≡ old_words → new ≡ written → l ≡ n
      → memory reading new
      ≡ with_piece (memory reading old ++ replicate ((length new - length old) * reading.bits) false) (h + l) ys
  grown_words old new l is_old is_new is_len =
      let less : more ≡ length new - length old_words =
      is_more ∙ sym (ap₂ (λ x y. x - y) (ap length is_new ∙ new_count) old_count) in
      ap (memory reading) is_new ∙ all ∙ rw (is_old, is_len, less) refl
