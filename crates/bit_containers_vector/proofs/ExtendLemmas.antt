-- Vectors that grow step by step.
use Rattle.std.proofs.Common.{◌≡◌, ℕ, ◌+◌, ◌-◌, ◌*◌, ◌<◌, ◌≤◌, [], ◌++◌}
use Rattle.std.proofs.Common.{Bool, false, List, length, replicate, arith, ap, ap₂, sym}
use Rattle.std.proofs.Common.{◌∙◌, refl, length-append, append_assoc, append-nil}
use Rattle.std.proofs.lemmas.List.{places, same_lists, length-take-le, length-replicate}
use Rattle.bit_addressing_memory.specs.Memory.{Reading, memory, with_piece}
use Rattle.bit_addressing_memory.proofs.MemoryLemmas.{length-memory}
use Rattle.bit_containers_vector.specs.Count.{words_for}
use Rattle.bit_containers_vector.specs.Grown.{Extends}
use Rattle.bit_containers_vector.specs.Vector.{vec_bits, visible, IsAsBefore}
use Rattle.bit_containers_vector.specs.declared.vector.BitVec.{BitVec}
use Rattle.bit_containers_vector.proofs.CountLemmas.{words_hold, words_more, words_within}
use Rattle.bit_containers_vector.proofs.WordLemmas.{length-bits}

-- nothing written over
written_none : (xs : List Bool) (p : ℕ) → with_piece xs p [] ≡ xs
unfolding with_piece
written_none xs p = same_lists _ _ (grind (arith, places)) (λ k d inside. grind (arith, places))

-- more behind what was written over
written_on : (xs zs ys more : List Bool) (p : ℕ) → p + length ys ≤ length xs
    → with_piece (with_piece xs p ys ++ zs) (p + length ys) more ≡ with_piece (xs ++ zs) p (ys ++ more)
unfolding with_piece
written_on xs zs ys more p fits = same_lists _ _ (grind (arith, places)) (λ k d inside. grind (arith, places))

-- so many more
replicate_on : (m n : ℕ) → replicate m false ++ replicate n false ≡ replicate (m + n) false
replicate_on m n = same_lists _ _ (grind (arith, places)) (λ k d inside. grind (arith, places))

module _ {T O : Type 0} {g : _} (reading : Reading T) where
  -- as many visible words as its bits take
  length-visible : (v : BitVec T O g) → 0 < reading.bits → v.head + v.len ≤ length v.words.items * reading.bits
      → length (visible reading v) ≡ words_for reading.bits (v.head + length (vec_bits reading v))
  length-visible v some fits =
      let held : length (vec_bits reading v) ≡ v.len = length-bits reading v fits in
      let end : v.head + length (vec_bits reading v) ≤ length v.words.items * reading.bits = omega (arith, held, fits) in
      length-take-le _ v.words.items (words_within reading.bits _ _ some end)

  -- a vector that has not grown
  pub extends_none : (v : BitVec T O g) → Extends reading v v []
  extends_none v =
      let no_word : length (visible reading v) - length (visible reading v) ≡ 0 = omega arith in
      let none : (length (visible reading v) - length (visible reading v)) * reading.bits ≡ 0 =
      ap (λ k. k * reading.bits) no_word ∙ omega arith in
      record {
        bits = sym (append-nil (vec_bits reading v));
        head = refl;
        words =
            sym (ap
            (λ k. with_piece (memory reading (visible reading v) ++ replicate k false) (v.head + length (vec_bits reading v)) [])
            none
            ∙ written_none (memory reading (visible reading v) ++ []) (v.head + length (vec_bits reading v))
            ∙ append-nil (memory reading (visible reading v)));
      }

  -- one that has room for more alone
  pub extends_same : (old new : BitVec T O g) → IsAsBefore reading old new → Extends reading old new []
  extends_same old new same =
      let grown = extends_none new in record {
        bits = grown.bits ∙ ap (λ xs. xs ++ []) same.bits;
        head = same.head;
        words =
            grown.words
            ∙ ap₂ (λ ws p. with_piece (memory reading ws
            ++ replicate ((length (visible reading new) - length ws) * reading.bits) false) p []) same.words
            (ap₂ (λ h xs. h + length xs) same.head same.bits);
      }

  -- one that has grown twice
  pub extends_more : (old mid new : BitVec T O g) (xs ys : List Bool) → 0 < reading.bits
      → old.head + old.len ≤ length old.words.items * reading.bits
      → mid.head + mid.len ≤ length mid.words.items * reading.bits
      → new.head + new.len ≤ length new.words.items * reading.bits
      → Extends reading old mid xs → Extends reading mid new ys → Extends reading old new (xs ++ ys)
  extends_more old mid new xs ys some fits fits_mid fits_new one two =
      let b : ℕ = reading.bits in
      let seen : BitVec T O g → List T = visible reading in
      let p : ℕ = old.head + length (vec_bits reading old) in
      let first : length (vec_bits reading mid) ≡ length (vec_bits reading old) + length xs =
      ap length one.bits ∙ length-append (vec_bits reading old) xs in
      let second : length (vec_bits reading new) ≡ length (vec_bits reading mid) + length ys =
      ap length two.bits ∙ length-append (vec_bits reading mid) ys in
      let end : mid.head + length (vec_bits reading mid) ≡ p + length xs = omega (arith, one.head, first) in
      let end_new : new.head + length (vec_bits reading new) ≡ p + length xs + length ys =
      omega (arith, two.head, second, end) in
      let count : length (seen old) ≡ words_for b p = length-visible old some fits in
      let count_mid : length (seen mid) ≡ words_for b (p + length xs) =
      length-visible mid some fits_mid ∙ ap (words_for b) end in
      let count_new : length (seen new) ≡ words_for b (p + length xs + length ys) =
      length-visible new some fits_new ∙ ap (words_for b) end_new in
      let less : length (seen old) ≤ length (seen mid) =
      omega (arith, count, count_mid, words_more b p (length xs) some) in
      let less_new : length (seen mid) ≤ length (seen new) =
      omega (arith, count_mid, count_new, words_more b (p + length xs) (length ys) some) in
      let m : ℕ = length (seen mid) - length (seen old) in
      let n : ℕ = length (seen new) - length (seen mid) in
      let both : length (seen new) - length (seen old) ≡ m + n = omega (arith, less, less_new) in
      let all : m * b + n * b ≡ (length (seen new) - length (seen old)) * b =
      sym (ap (λ k. k * b) both ∙ omega arith) in
      let grown : length (seen mid) ≡ length (seen old) + m = omega (arith, less) in
      let size : length (seen mid) * b ≡ length (seen old) * b + m * b = ap (λ k. k * b) grown ∙ omega arith in
      let was = memory reading (seen old) in
      let longer = was ++ replicate (m * b) false in
      let hold : p + length xs ≤ length (seen mid) * b =
      let product : length (seen mid) * b ≡ words_for b (p + length xs) * b = ap (λ k. k * b) count_mid in
      omega (arith, words_hold b (p + length xs) some, product) in
      let inside : p + length xs ≤ length longer =
      omega (
        arith,
        hold,
        size,
        length-append was (replicate (m * b) false),
        length-memory reading (seen old),
        length-replicate (m * b) false,
      ) in
      record {
        bits =
            two.bits ∙ ap (λ zs. zs ++ ys) one.bits ∙ append_assoc (vec_bits reading old) xs ys;
        head = two.head ∙ one.head;
        words =
            two.words
            ∙ ap₂ (λ zs k. with_piece (zs ++ replicate (n * b) false) k ys) one.words end
            ∙ written_on longer (replicate (n * b) false) xs ys p inside
            ∙ ap (λ zs. with_piece zs p (xs ++ ys))
            (append_assoc was (replicate (m * b) false) (replicate (n * b) false)
            ∙ ap (λ zs. was ++ zs) (replicate_on (m * b) (n * b) ∙ ap (λ k. replicate k false) all));
      }
