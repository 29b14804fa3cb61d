-- One list with a bit a row: its rows are of one bit each.
use Rattle.std.proofs.Common.{◌≡◌, ℕ, ◌*◌, ◌<◌, Bool, false, List, [], ◌∷◌, length}
use Rattle.std.proofs.Common.{ap, ap₂, ◌∙◌, arith}
use Rattle.std.proofs.lemmas.List.FromFn.{get_or-map-range_with_len, length-map-range_with_len}
use Rattle.bit_addressing_memory.specs.Memory.{Reading, digits, piece}
use Rattle.bit_table_rows.specs.declared.edit.RowEdit.{RowEdit}
use Rattle.bit_table_rows.specs.declared.edit.RowEdit.TheVariants.{Insert, Delete, Copy, Swap, Rotate, Dup}
use Rattle.bit_table_rows.specs.RowEdit.{bits_edited_by, edited_by, LiesIn}
use Rattle.bit_table_rows.specs.RowEdits.{copied, deleted, exchanged, inserted, repeated, turned}
use Rattle.bit_table_rows.proofs.RowListLemmas.{exchanged_one, one_read}

-- rows of one bit begin at their numbers
pub times_one : (p : ℕ) → p * 1 ≡ p
times_one p = omega arith

-- an edit of rows of one bit is one of the list
pub bits_edited_one : (e : RowEdit) (x : Bool) (xs : List Bool) (n : ℕ) → length xs ≡ n → LiesIn n e
    → bits_edited_by 1 (x ∷ []) e xs ≡ edited_by x e xs
bits_edited_one (Insert p) x xs n size within = ap (λ a. inserted xs a (x ∷ [])) (times_one p)
bits_edited_one (Delete p q) x xs n size within = ap₂ (deleted xs) (times_one p) (times_one q)
bits_edited_one (Copy p q r) x xs n size within =
    ap (λ a. copied xs a (q * 1) (r * 1)) (times_one p) ∙ ap₂ (copied xs p) (times_one q) (times_one r)
bits_edited_one (Swap p q) x xs n size within =
    ap₂ (λ a b. exchanged xs a b 1) (times_one p) (times_one q)
    ∙ exchanged_one xs p q (omega (arith, size, within.0)) (omega (arith, size, within.1))
bits_edited_one (Rotate p q k) x xs n size within =
    ap (λ a. turned xs a (q * 1) (k * 1)) (times_one p) ∙ ap₂ (turned xs p) (times_one q) (times_one k)
bits_edited_one (Dup p q) x xs n size within = ap₂ (repeated xs) (times_one p) (times_one q)

-- the first digit of a word, where it is 0
pub first_zero : {R : Type 0} (reading : Reading R) (w : R) → 0 < reading.bits → reading.digit w 0 ≡ false
    → piece (digits reading w) 0 1 ≡ false ∷ []
first_zero reading w some zero =
    one_read (digits reading w) 0 false (omega (arith, length-map-range_with_len (reading.digit w) 0 reading.bits))
    ∙ ap (λ b. b ∷ []) (get_or-map-range_with_len (reading.digit w) 0 reading.bits 0 0 false some (omega arith) ∙ zero)
