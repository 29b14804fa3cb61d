-- A letter combined with another.
--
-- Words: `overwrites_xor`. A list with itself: `combined_same`, `combined_none`. Rows' letters: `marks_combined`.
use Rattle.std.proofs.Common.{◌≡◌, ℕ, ◌<◌, ◌&&◌, ◌||◌, ◌⊎◌, inl, inr, Bool, true, false, List, [], ◌∷◌, length}
use Rattle.std.proofs.Common.{replicate, set as put, refl, sym, ap, ◌∙◌}
use mathlib.Core.Bool.{xor}
use Rattle.std.specs.Simd.Lanes.{zip2}
use Rattle.std.proofs.lemmas.Simd.{zip2_of_maps}
use Rattle.bit_addressing_memory.specs.Memory.{Reading, Overwrites}
use Rattle.bit_table_layout.specs.Letters.{combined, differ}
use Rattle.bit_table_layout.specs.LetterSets.{letter_count, bears}
use Rattle.bit_table_layout.specs.declared.bool_op.BoolOp.{BoolOp}
use Rattle.bit_table_layout.specs.declared.bool_op.BoolOp.TheVariants.{And, Or, Xor}
use Rattle.bit_table_rows.specs.Marks.{decided, list_of, marks_of}
use Rattle.bit_table_rows.proofs.MarkLemmas.{column_marked}
use Rattle.bit_table_rows.proofs.PutLemmas.{marks_decided}

-- whether two bits differ
differs : (a b : Bool) → xor a b ≡ differ a b
unfolding xor
differs true true = refl
differs true false = refl
differs false true = refl
differs false false = refl

-- bits overwritten by `^`
pub overwrites_xor : {R : Type 0} (reading : Reading R) (before after : List R) (place n : ℕ) (op : BoolOp)
    (one other : ℕ → Bool) → op ≡ Xor → Overwrites reading before after place n (λ k. xor (one k) (other k))
    → Overwrites reading before after place n (λ k. combined op (one k) (other k))
overwrites_xor reading before after place n op one other same is = record {
  below = is.below;
  there = λ k low. is.there k low ∙ differs (one k) (other k) ∙ ap (λ o. combined o (one k) (other k)) (sym same);
  above = is.above;
  words = is.words;
}

-- ---- a list with itself

both_same : (xs : List Bool) → zip2 (λ a b. a && b) xs xs ≡ xs
both_same [] = refl
both_same (true ∷ xs) = ap (λ l. true ∷ l) (both_same xs)
both_same (false ∷ xs) = ap (λ l. false ∷ l) (both_same xs)

one_same : (xs : List Bool) → zip2 (λ a b. a || b) xs xs ≡ xs
one_same [] = refl
one_same (true ∷ xs) = ap (λ l. true ∷ l) (one_same xs)
one_same (false ∷ xs) = ap (λ l. false ∷ l) (one_same xs)

differ_same : (xs : List Bool) → zip2 differ xs xs ≡ replicate (length xs) false
differ_same [] = refl
differ_same (true ∷ xs) = ap (λ l. false ∷ l) (differ_same xs)
differ_same (false ∷ xs) = ap (λ l. false ∷ l) (differ_same xs)

-- a list that stays
pub combined_same : (op : BoolOp) (xs : List Bool) → (op ≡ And) ⊎ (op ≡ Or) → xs ≡ zip2 (combined op) xs xs
combined_same op xs (inl same) = sym (ap (λ o. zip2 (combined o) xs xs) same ∙ both_same xs)
combined_same op xs (inr same) = sym (ap (λ o. zip2 (combined o) xs xs) same ∙ one_same xs)

-- and one that is cleared
pub combined_none : (op : BoolOp) (xs : List Bool) → op ≡ Xor
    → replicate (length xs) false ≡ zip2 (combined op) xs xs
combined_none op xs same = sym (ap (λ o. zip2 (combined o) xs xs) same ∙ differ_same xs)

-- ---- rows' letters

-- the list of letter x combined with that of letter y
pub marks_combined : (op : BoolOp) (lists : List (List Bool)) (n x y : ℕ) → length lists ≡ letter_count
    → x < letter_count → y < letter_count → length (list_of lists x) ≡ n → length (list_of lists y) ≡ n
    → marks_of n (put lists x (zip2 (combined op) (list_of lists x) (list_of lists y)))
    ≡ decided x (λ letters. combined op (bears x letters) (bears y letters)) (marks_of n lists)
marks_combined op lists n x y count low its_low size its_size =
    ap (λ bits. marks_of n (put lists x bits))
    (zip2_of_maps (combined op) (bears x) (bears y) (marks_of n lists) (sym (column_marked lists n x low size))
    (sym (column_marked lists n y its_low its_size)))
    ∙ marks_decided lists n x count low (λ letters. combined op (bears x letters) (bears y letters))
