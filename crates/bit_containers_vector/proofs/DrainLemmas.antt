-- Bits taken out of the middle of a list: turned behind the others, and cut off.
use Rattle.std.proofs.Common.{◌≡◌, ℕ, ◌+◌, ◌-◌, ◌*◌, ◌<◌, ◌≤◌, [], ◌∷◌, ◌++◌}
use Rattle.std.proofs.Common.{Bool, List, length, take, drop, arith, sym, ap, ap₂}
use Rattle.std.proofs.Common.{◌∙◌, inl}
use Rattle.std.proofs.lemmas.List.{places, same_lists}
use Rattle.std.specs.Prelude.{vec_capacity}
use Rattle.bit_addressing_memory.specs.Memory.{Reading, entry, memory, piece, Overwrites}
use Rattle.bit_addressing_memory.proofs.MemoryLemmas.{length-memory, entry_memory, piece_none}
use Rattle.bit_slice_iterators.proofs.BitLemmas.{piece_one}
use Rattle.bit_addressing_memory.proofs.WindowLemmas.{window_beside}
use Rattle.bit_slice_words.specs.Rotations.{rotated_from}
use Rattle.bit_slice_words.proofs.ListLemmas.{rotated_left_list}
use Rattle.bit_containers_vector.specs.Drained.{Cut}
use Rattle.bit_containers_vector.specs.Vector.{vec_bits}
use Rattle.bit_containers_vector.specs.declared.vector.BitVec.{BitVec}
use Rattle.bit_containers_vector.proofs.WordLemmas.{length-bits}

-- the end of a piece
piece_end : (xs : List Bool) (h n i : ℕ) → i ≤ n → piece xs (h + i) (n - i) ≡ drop i (piece xs h n)
unfolding piece
piece_end xs h n i inside = same_lists _ _ (grind (arith, places)) (λ k d here. grind (arith, places))

-- its front
piece_begin : (xs : List Bool) (h n i : ℕ) → i ≤ n → piece xs h i ≡ take i (piece xs h n)
unfolding piece
piece_begin xs h n i inside = same_lists _ _ (grind (arith, places)) (λ k d here. grind (arith, places))

-- two pieces one behind the other
piece_parts : (xs : List Bool) (h i m : ℕ) → piece xs h (i + m) ≡ piece xs h i ++ piece xs (h + i) m
unfolding piece
piece_parts xs h i m = same_lists _ _ (grind (arith, places)) (λ k d here. grind (arith, places))

-- of bits that were turned, those that are kept and those that are gone
kept_part : (xs : List Bool) (from upto : ℕ) → from ≤ upto → upto ≤ length xs
    → take (length xs - upto) (drop (upto - from) (drop from xs) ++ take (upto - from) (drop from xs)) ≡ drop upto xs
kept_part xs from upto ordered within = same_lists _ _ (grind (arith, places)) (λ k d here. grind (arith, places))

gone_part : (xs : List Bool) (from upto : ℕ) → from ≤ upto → upto ≤ length xs
    → drop (length xs - upto) (drop (upto - from) (drop from xs) ++ take (upto - from) (drop from xs))
    ≡ piece xs from (upto - from)
unfolding piece
gone_part xs from upto ordered within = same_lists _ _ (grind (arith, places)) (λ k d here. grind (arith, places))

-- a vector whose bits from a place on were turned, and that then shows fewer
pub cut_off : {T O : Type 0} {g : _} (reading : Reading T) (old new : BitVec T O g) (from upto : ℕ) → 0 < reading.bits
    → old.head + old.len ≤ length old.words.items * reading.bits → from ≤ upto → upto ≤ old.len
    → new.head ≡ old.head → new.len ≡ old.len - (upto - from) → vec_capacity new.words ≡ vec_capacity old.words
    → Overwrites reading old.words.items new.words.items (old.head + from) (old.len - from)
    (λ k. entry reading old.words.items (old.head + from + rotated_from (old.len - from) (upto - from) k))
    → Cut reading from upto old new
cut_off reading old new from upto some fits ordered within head len capacity turned =
    let h : ℕ = old.head in
    let n : ℕ = old.len in
    let by : ℕ = upto - from in
    let was = memory reading old.words.items in
    let now = memory reading new.words.items in
    let xs = vec_bits reading old in
    let size : length xs ≡ n = length-bits reading old fits in
    let behind : piece now (h + from) (n - from) ≡ drop by (drop from xs) ++ take by (drop from xs) =
    rotated_left_list reading old.words.items new.words.items (h + from) (n - from) some (omega (arith, fits)) by
    (omega (arith, ordered, within)) turned
    ∙ ap (λ ys. drop by ys ++ take by ys) (piece_end was h n from (omega (arith, ordered, within))) in
    let front : piece now h from ≡ take from xs =
    window_beside reading old.words.items new.words.items h from (h + from) (n - from) _ some (omega (arith, fits, within))
    (inl (omega arith)) turned
    ∙ piece_begin was h n from (omega (arith, ordered, within)) in
    let left : ℕ = n - upto in
    let few : new.len ≡ from + left = omega (arith, len, ordered, within) in
    let keep : piece now (h + from) left ≡ drop upto xs =
    piece_begin now (h + from) (n - from) left (omega (arith, ordered, within))
    ∙ ap (take left) behind
    ∙ ap (λ k. take (k - upto) (drop by (drop from xs) ++ take by (drop from xs))) (sym size)
    ∙ kept_part xs from upto ordered (omega (arith, size, within)) in
    let at : new.head + new.len ≡ h + from + left = omega (arith, head, few) in
    let rest : by ≡ n - from - left = omega (arith, ordered, within) in
    record {
      cut = record {
        bits = ap₂ (λ p k. piece now p k) head few ∙ piece_parts now h from left ∙ ap₂ (λ x y. x ++ y) front keep;
        head = head;
        room = ap₂ (λ c p. c * reading.bits - p) capacity head;
      };
      gone =
          ap₂ (λ p k. piece now p k) at rest
          ∙ piece_end now (h + from) (n - from) left (omega (arith, ordered, within))
          ∙ ap (drop left) behind
          ∙ ap (λ k. drop (k - upto) (drop by (drop from xs) ++ take by (drop from xs))) (sym size)
          ∙ gone_part xs from upto ordered (omega (arith, size, within));
      held =
          let count : length new.words.items * reading.bits ≡ length old.words.items * reading.bits =
          ap (λ k. k * reading.bits) turned.words in
          omega (arith, at, count, fits, ordered, within);
    }

-- the first of the bits between two places, and the others
pub first_gone : {R : Type 0} (reading : Reading R) (words : List R) (f t : ℕ) (x : Bool) → 0 < reading.bits → f < t
    → t ≤ length words * reading.bits → x ≡ entry reading words f
    → piece (memory reading words) f (t - f) ≡ x ∷ piece (memory reading words) (f + 1) (t - (f + 1))
first_gone reading words f t x some low fits is =
    let m = memory reading words in
    let count : t - f ≡ 1 + (t - (f + 1)) = omega arith in
    ap (piece m f) count
    ∙ piece_parts m f 1 (t - (f + 1))
    ∙ ap (λ ys. ys ++ piece m (f + 1) (t - (f + 1)))
    (piece_one m f (omega (arith, length-memory reading words)) ∙ ap (λ y. y ∷ []) (entry_memory reading words f some ∙ sym is))

-- the last of them, and the others
pub last_gone : {R : Type 0} (reading : Reading R) (words : List R) (f t : ℕ) (x : Bool) → 0 < reading.bits → f < t
    → t ≤ length words * reading.bits → x ≡ entry reading words (t - 1)
    → piece (memory reading words) f (t - f) ≡ piece (memory reading words) f (t - 1 - f) ++ x ∷ []
last_gone reading words f t x some low fits is =
    let m = memory reading words in
    let count : t - f ≡ t - 1 - f + 1 = omega arith in
    let at : f + (t - 1 - f) ≡ t - 1 = omega arith in
    ap (piece m f) count
    ∙ piece_parts m f (t - 1 - f) 1
    ∙ ap (λ p. piece m f (t - 1 - f) ++ piece m p 1) at
    ∙ ap (λ ys. piece m f (t - 1 - f) ++ ys)
    (piece_one m (t - 1) (omega (arith, length-memory reading words))
    ∙ ap (λ y. y ∷ []) (entry_memory reading words (t - 1) some ∙ sym is))

-- the bits that are gone stand behind those that stay
pub gone_place : {T O : Type 0} {g : _} (reading : Reading T) (from upto : ℕ) (old new : BitVec T O g) → from ≤ upto
    → upto ≤ length (vec_bits reading old) → new.head + new.len ≤ length new.words.items * reading.bits
    → Cut reading from upto old new
    → new.head + new.len ≡ old.head + (length (vec_bits reading old) - (upto - from))
gone_place reading from upto old new ordered within fits cut =
    let xs = vec_bits reading old in
    let low : from ≤ length xs = omega arith in
    let left : length (take from xs ++ drop upto xs) ≡ from + (length xs - upto) = grind (arith, places) in
    omega (arith, length-bits reading new fits, ap length cut.cut.bits, left, cut.cut.head)

-- none is left
pub none_left : {R : Type 0} (reading : Reading R) (words : List R) (p n : ℕ) → n ≡ 0
    → piece (memory reading words) p n ≡ []
none_left reading words p n none = piece_none (memory reading words) p n none

-- the first of so many bits, and the others
pub first_left : {R : Type 0} (reading : Reading R) (words : List R) (p n : ℕ) (x : Bool) → 0 < reading.bits → 0 < n
    → p + n ≤ length words * reading.bits → x ≡ entry reading words p
    → piece (memory reading words) p n ≡ x ∷ piece (memory reading words) (p + 1) (n - 1)
first_left reading words p n x some more fits is =
    let m = memory reading words in
    let all : n ≡ p + n - p = omega arith in
    let rest : p + n - (p + 1) ≡ n - 1 = omega arith in
    ap (piece m p) all
    ∙ first_gone reading words p (p + n) x some (omega arith) fits is
    ∙ ap (λ k. x ∷ piece m (p + 1) k) rest

-- the last of them, and the others
pub last_left : {R : Type 0} (reading : Reading R) (words : List R) (p n : ℕ) (x : Bool) → 0 < reading.bits → 0 < n
    → p + n ≤ length words * reading.bits → x ≡ entry reading words (p + (n - 1))
    → piece (memory reading words) p n ≡ piece (memory reading words) p (n - 1) ++ x ∷ []
last_left reading words p n x some more fits is =
    let m = memory reading words in
    let all : n ≡ p + n - p = omega arith in
    let rest : p + n - 1 - p ≡ n - 1 = omega arith in
    let at : p + (n - 1) ≡ p + n - 1 = omega arith in
    ap (piece m p) all
    ∙ last_gone reading words p (p + n) x some (omega arith) fits (is ∙ ap (entry reading words) at)
    ∙ ap (λ k. piece m p k ++ x ∷ []) rest
