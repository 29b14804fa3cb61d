-- What two parts of a window that were written in turn make of the window.
--
-- A part is a piece of the list: `part_bits`. Both written, the first and then the other: `both_written`.
use Rattle.std.proofs.Common.{◌≡◌, ℕ, ◌+◌, ◌-◌, ◌≤◌, Bool, List, ◌++◌, length, take, drop, sym, ap, ◌∙◌, refl, arith}
use Rattle.std.proofs.lemmas.List.{drop-drop, drop-take, take-take, take_rest}
use Rattle.bit_addressing_memory.specs.Memory.{memory, piece}
use Rattle.bit_addressing_memory.proofs.MemoryLemmas.{piece_join, piece_piece}
use Rattle.bit_slice_views_mut.specs.Frame.{frame_of}
use Rattle.bit_slice_views_mut.specs.Parts.{IsPart, Windows}

-- a part is a piece of the window's list
pub part_bits : {V X R : Type 0} (of : Windows V X R) (v part : V) (from n : ℕ)
    → IsPart of v (of.place v + from) n part → from + n ≤ length (of.bits v) → of.bits part ≡ piece (of.bits v) from n
part_bits of v part from n is inside =
    let m = memory of.reading (of.words v) in
    let whole : of.bits v ≡ piece m (of.place v) (length (of.bits v)) = of.window v in
    let shown : of.bits part ≡ piece m (of.place v + from) n =
    of.window part ∙ rw (is.words, is.place, is.len) refl in
    shown
    ∙ sym (piece_piece m (of.place v) (length (of.bits v)) from n inside)
    ∙ ap (λ xs. piece xs from n) (sym whole)

-- a list that is as it was before a place has the pieces there that it had
piece_front : (xs ys : List Bool) (p n : ℕ) → take (p + n) xs ≡ take (p + n) ys → piece xs p n ≡ piece ys p n
unfolding piece
piece_front xs ys p n same = sym (drop-take p n xs) ∙ ap (drop p) same ∙ drop-take p n ys

-- and one that is as it was from a place on
piece_back : (xs ys : List Bool) (p n : ℕ) → drop p xs ≡ drop p ys → piece xs p n ≡ piece ys p n
unfolding piece
piece_back xs ys p n same = ap (take n) same

take_less : (xs ys : List Bool) (p n : ℕ) → take (p + n) xs ≡ take (p + n) ys → take p xs ≡ take p ys
take_less xs ys p n same =
    sym (take-take p (p + n) xs (omega arith)) ∙ ap (take p) same ∙ take-take p (p + n) ys (omega arith)

drop_more : (xs ys : List Bool) (p n : ℕ) → drop p xs ≡ drop p ys → drop (p + n) xs ≡ drop (p + n) ys
drop_more xs ys p n same = sym (drop-drop n p xs) ∙ ap (drop n) same ∙ drop-drop n p ys

piece_first : (xs : List Bool) (n : ℕ) → piece xs 0 n ≡ take n xs
unfolding piece
piece_first xs n = refl

piece_last : (xs : List Bool) (n : ℕ) → piece xs n (length xs - n) ≡ drop n xs
unfolding piece
piece_last xs n = take_rest xs n

-- the first part is the window's first bits
pub left_bits : {V X R : Type 0} (of : Windows V X R) (v left : V) (mid : ℕ) → IsPart of v (of.place v) mid left
    → mid ≤ length (of.bits v) → of.bits left ≡ take mid (of.bits v)
left_bits of v left mid is inside =
    let start : of.place v ≡ of.place v + 0 = omega arith in
    let from : IsPart of v (of.place v + 0) mid left = rw (← start) is in
    part_bits of v left 0 mid from (omega arith) ∙ piece_first (of.bits v) mid

-- and the other its last bits, also once the first is written
pub right_bits : {V X R : Type 0} (of : Windows V X R) (v left first right : V) (mid : ℕ) → mid ≤ length (of.bits v)
    → IsPart of v (of.place v) mid left → of.frame first ≡ of.frame left
    → length (of.bits first) ≡ mid
    → IsPart of first (of.place v + mid) (length (of.bits v) - mid) right
    → of.bits right ≡ drop mid (of.bits v)
right_bits of v left first right mid inside is_left kept count is_right =
    let n : ℕ = length (of.bits v) in
    let at : ℕ = of.place v in
    let m0 = memory of.reading (of.words v) in
    let m1 = memory of.reading (of.words first) in
    let outer : frame_of of.reading (of.lender first) (of.words first) (of.place first) (length (of.bits first))
    ≡ frame_of of.reading (of.lender left) (of.words left) (of.place left) (length (of.bits left)) =
    sym (of.framed first) ∙ kept ∙ of.framed left in
    let at_first : of.place first ≡ at = ap (λ f. f.place) outer ∙ is_left.place in
    let behind_first : drop (at + mid) m1 ≡ drop (at + mid) m0 =
    ap (λ p. drop p m1) (omega arith) ∙ ap (λ f. f.behind) outer
    ∙ rw (is_left.words, is_left.place, is_left.len) refl in
    let shown : of.bits right ≡ piece m1 (at + mid) (n - mid) =
    of.window right ∙ rw (is_right.words, is_right.place, is_right.len) refl in
    let whole : of.bits v ≡ piece m0 at n = of.window v in
    shown ∙ piece_back m1 m0 (at + mid) (n - mid) behind_first
    ∙ sym (piece_piece m0 at n mid (n - mid) (omega arith))
    ∙ ap (λ xs. piece xs mid (n - mid)) (sym whole)
    ∙ piece_last (of.bits v) mid

-- the first part written, and then the other: the whole is both, end to end, and its frame is as it was
pub both_written : {V X R : Type 0} (of : Windows V X R) (v left first right second last : V) (mid : ℕ)
    → mid ≤ length (of.bits v)
    → IsPart of v (of.place v) mid left → of.frame first ≡ of.frame left → length (of.bits first) ≡ mid
    → IsPart of first (of.place v + mid) (length (of.bits v) - mid) right
    → of.frame second ≡ of.frame right → length (of.bits second) ≡ length (of.bits v) - mid
    → of.words last ≡ of.words second → of.lender last ≡ of.lender second → of.place last ≡ of.place v
    → length (of.bits last) ≡ length (of.bits v)
    → (of.bits last ≡ of.bits first ++ of.bits second) × (of.frame last ≡ of.frame v)
both_written of v left first right second last mid inside is_left kept count is_right kept2 count2 words lender place
    size =
    let n : ℕ = length (of.bits v) in
    let at : ℕ = of.place v in
    let m0 = memory of.reading (of.words v) in
    let m1 = memory of.reading (of.words first) in
    let m2 = memory of.reading (of.words second) in
    let rest : ℕ = n - mid in
    let ends : at + mid + rest ≡ at + n = omega arith in
    let outer : frame_of of.reading (of.lender first) (of.words first) (of.place first) (length (of.bits first))
    ≡ frame_of of.reading (of.lender left) (of.words left) (of.place left) (length (of.bits left)) =
    sym (of.framed first) ∙ kept ∙ of.framed left in
    let inner : frame_of of.reading (of.lender second) (of.words second) (of.place second) (length (of.bits second))
    ≡ frame_of of.reading (of.lender right) (of.words right) (of.place right) (length (of.bits right)) =
    sym (of.framed second) ∙ kept2 ∙ of.framed right in
    let at_first : of.place first ≡ at = ap (λ f. f.place) outer ∙ is_left.place in
    let at_second : of.place second ≡ at + mid = ap (λ f. f.place) inner ∙ is_right.place in
    let lent_first : of.lender first ≡ of.lender v = ap (λ f. f.lender) outer ∙ is_left.lender in
    let lent_second : of.lender second ≡ of.lender v = ap (λ f. f.lender) inner ∙ is_right.lender ∙ lent_first in
    let many_first : length (of.words first) ≡ length (of.words v) =
    ap (λ f. f.words) outer ∙ ap length is_left.words in
    let many_second : length (of.words second) ≡ length (of.words v) =
    ap (λ f. f.words) inner ∙ ap length is_right.words ∙ many_first in
    let before_first : take at m1 ≡ take at m0 =
    ap (λ p. take p m1) (sym at_first) ∙ ap (λ f. f.before) outer
    ∙ rw (is_left.words, is_left.place) refl in
    let behind_first : drop (at + mid) m1 ≡ drop (at + mid) m0 =
    ap (λ p. drop p m1) (omega arith) ∙ ap (λ f. f.behind) outer
    ∙ rw (is_left.words, is_left.place, is_left.len) refl in
    let before_second : take (at + mid) m2 ≡ take (at + mid) m1 =
    ap (λ p. take p m2) (sym at_second) ∙ ap (λ f. f.before) inner
    ∙ rw (is_right.words, is_right.place) refl in
    let behind_second : drop (at + n) m2 ≡ drop (at + n) m1 =
    ap (λ p. drop p m2) (omega arith) ∙ ap (λ f. f.behind) inner
    ∙ rw (is_right.words, is_right.place, is_right.len) (ap (λ p. drop p m1) (omega arith)) in
    let bits_first : of.bits first ≡ piece m1 at mid = of.window first ∙ rw (at_first, count) refl in
    let bits_second : of.bits second ≡ piece m2 (at + mid) rest = of.window second ∙ rw (at_second, count2) refl in
    let bits_last : of.bits last ≡ piece m2 at n = of.window last ∙ rw (words, place, size) refl in
    let joined : piece m2 at mid ++ piece m2 (at + mid) rest ≡ piece m2 at n =
    piece_join m2 at mid (at + mid) rest n refl (omega arith) in
    let front : piece m2 at mid ≡ piece m1 at mid = piece_front m2 m1 at mid before_second in
    let before : take at m2 ≡ take at m0 = take_less m2 m1 at mid before_second ∙ before_first in
    let behind : drop (at + n) m2 ≡ drop (at + n) m0 =
    behind_second ∙ ap (λ p. drop p m1) (sym ends) ∙ drop_more m1 m0 (at + mid) rest behind_first
    ∙ ap (λ p. drop p m0) ends in (
      bits_last ∙ sym joined ∙ ap (λ xs. xs ++ piece m2 (at + mid) rest) (front ∙ sym bits_first)
          ∙ ap (λ xs. of.bits first ++ xs) (sym bits_second),
      of.framed last ∙ rw (words, lender, place, size, lent_second, many_second, before, behind) refl
          ∙ sym (of.framed v),
    )
