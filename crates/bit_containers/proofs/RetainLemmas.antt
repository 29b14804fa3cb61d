-- How a list loses the bits that a predicate does not choose.
--
-- One more index asked: `answered`, `chosen_more`, `chosen_same`. One more bit moved to the front: `moved_front`,
-- `moved_rest`, `not_yet_moved`. The vector afterwards: `leaves_first`.
use Rattle.std.proofs.Common.{◌≡◌, ℕ, zero, suc, ◌+◌, ◌-◌, ◌*◌, ◌<◌, ◌≤◌, Bool, true, false}
use Rattle.std.proofs.Common.{List, [], ◌∷◌, ◌++◌, length, take, drop}
use Rattle.std.proofs.Common.{get_or, set, arith, refl, ap, ap₂, sym, ◌∙◌, subst}
use Rattle.std.proofs.Common.{inl, inr, length-set, get_or-set_same, get_or-set_other}
use Rattle.std.proofs.Math.Nat.{mul-le-mul_right}
use Rattle.std.proofs.lemmas.Bool.{cases_eq}
use Rattle.std.proofs.lemmas.List.{places, same_lists, get_or-drop, length-take-le}
use Rattle.std.specs.List.{items_where_true}
use Rattle.std.specs.List.Retain.{ReturnsInTurn}
use Rattle.bit_slice.specs.Memory.{Reading, memory, piece, with_piece}
use Rattle.bit_slice.proofs.MemoryLemmas.{length-memory, memory-take}
use Rattle.bit_containers_vector.specs.Count.{words_for}
use Rattle.bit_containers_vector.specs.Vector.{Shortens, vec_bits, vec_frame, vec_head, visible}
use Rattle.bit_containers_vector.specs.declared.vector.BitVec.{BitVec}
use Rattle.bit_containers_vector.proofs.CountLemmas.{words_hold, words_within, words_more}
use Rattle.bit_containers_vector.proofs.WordLemmas.{length-bits}
use Rattle.bit_containers.specs.Retained.{LeavesFirst}

-- ---- one more index

pub answered : {P : Type 0} (R : P → Bool → Bool → P → Type 0) (p q u : P) (bs xs : List Bool) (b : Bool)
    → length bs < length xs → ReturnsInTurn R p bs xs q → R q (get_or xs (length bs) false) b u
    → ReturnsInTurn R p (bs ++ b ∷ []) xs u
answered R p q u bs [] b low so_far call = absurd (omega arith)
answered R p q u [] (x ∷ xs) b low so_far call = (u, subst (λ j. R j x b u) (sym so_far) call, refl)
answered R p q u (a ∷ bs) (x ∷ xs) b low so_far call =
    (so_far.0, so_far.1, answered R so_far.0 q u bs xs b (omega arith) so_far.2 call)

-- a bit that is chosen comes behind those that were
pub chosen_more : (bs xs : List Bool) → length bs < length xs
    → items_where_true (bs ++ true ∷ []) xs ≡ items_where_true bs xs ++ get_or xs (length bs) false ∷ []
chosen_more bs [] low = absurd (omega arith)
chosen_more [] (x ∷ xs) low = refl
chosen_more (true ∷ bs) (x ∷ xs) low = ap (λ l. x ∷ l) (chosen_more bs xs (omega arith))
chosen_more (false ∷ bs) (x ∷ xs) low = chosen_more bs xs (omega arith)

-- and no other does
pub chosen_same : (bs xs : List Bool) → items_where_true (bs ++ false ∷ []) xs ≡ items_where_true bs xs
chosen_same [] [] = refl
chosen_same [] (x ∷ xs) = refl
chosen_same (b ∷ bs) [] = refl
chosen_same (true ∷ bs) (x ∷ xs) = ap (λ l. x ∷ l) (chosen_same bs xs)
chosen_same (false ∷ bs) (x ∷ xs) = chosen_same bs xs

-- ---- one more bit moved to the front

pub moved_front : (ys : List Bool) (k : ℕ) (b : Bool) → k < length ys
    → take (k + 1) (set ys k b) ≡ take k ys ++ b ∷ []
moved_front ys k b low =
    same_lists _ _ (grind (arith, places, length-set ys k b)) (λ j d h. elim (cases_eq j k) [
      | inl same ↦ rw same (grind (arith, places, get_or-set_same ys k b d))
      | inr other ↦ grind (arith, places, get_or-set_other ys k j b d other)
    ])

rest_kept : (ys : List Bool) (k : ℕ) (b : Bool) → drop (suc k) (set ys k b) ≡ drop (suc k) ys
rest_kept [] k b = refl
rest_kept (y ∷ ys) zero b = refl
rest_kept (y ∷ ys) (suc k) b = rest_kept ys k b

one_less : (xs : List Bool) (k : ℕ) → drop (suc k) xs ≡ drop 1 (drop k xs)
one_less xs zero = refl
one_less [] (suc k) = refl
one_less (x ∷ xs) (suc k) = one_less xs k

pub moved_rest : (ys xs : List Bool) (k : ℕ) (b : Bool) → drop k ys ≡ drop k xs
    → drop (k + 1) (set ys k b) ≡ drop (k + 1) xs
moved_rest ys xs k b same =
    let next : k + 1 ≡ suc k = omega arith in
    rw next (rest_kept ys k b ∙ one_less ys k ∙ ap (drop 1) same ∙ sym (one_less xs k))

-- a bit behind those that were moved is the one that was there
pub not_yet_moved : (ys xs : List Bool) (k i : ℕ) → k ≤ i → drop k ys ≡ drop k xs
    → get_or ys i false ≡ get_or xs i false
not_yet_moved ys xs k i past same =
    let at : k + (i - k) ≡ i = omega arith in
    ap (λ j. get_or ys j false) (sym at)
    ∙ sym (get_or-drop k ys (i - k) false)
    ∙ ap (λ l. get_or l (i - k) false) same
    ∙ get_or-drop k xs (i - k) false
    ∙ ap (λ j. get_or xs j false) at

-- ---- the vector afterwards

-- a list in three parts
in_parts : (m : List Bool) (h n : ℕ) → m ≡ take h m ++ (piece m h n ++ drop (h + n) m)
unfolding piece
in_parts m h n = same_lists _ _ (grind (arith, places)) (λ j d inside. grind (arith, places))

halves : (l : List Bool) (k : ℕ) → l ≡ take k l ++ drop k l
halves l k = same_lists _ _ (grind (arith, places)) (λ j d inside. grind (arith, places))

-- a list that has ys in the place of some of its bits
front_written : (m ys : List Bool) (h n k w : ℕ) → h + n ≤ w → w ≤ length m → k ≤ n → length ys ≡ k
    → take w (take h m ++ ((ys ++ drop k (piece m h n)) ++ drop (h + n) m)) ≡ with_piece (take w m) h ys
unfolding piece with_piece
front_written m ys h n k w within held fewer size =
    same_lists _ _ (grind (arith, places)) (λ j d inside. grind (arith, places))

-- a list of which a piece changed, and that only in front
front_changed : (m now ys : List Bool) (h n k w : ℕ) → h + n ≤ w → w ≤ length m → k ≤ n → length ys ≡ k
    → take h now ≡ take h m → drop (h + n) now ≡ drop (h + n) m → take k (piece now h n) ≡ ys
    → drop k (piece now h n) ≡ drop k (piece m h n) → take w now ≡ with_piece (take w m) h ys
front_changed m now ys h n k w within held fewer size before behind front rest =
    let middle : piece now h n ≡ ys ++ drop k (piece m h n) =
    halves (piece now h n) k ∙ ap₂ (λ a b. a ++ b) front rest in
    ap (take w) (in_parts now h n
    ∙ ap₂ (λ a b. a ++ b) before (ap₂ (λ a b. a ++ b) middle behind))
    ∙ front_written m ys h n k w within held fewer size

-- a vector of which bits moved to the front, and that was shortened to them
pub leaves_first : {T O : Type 0} {g : _} (reading : Reading T) (old mid new : BitVec T O g) (k : ℕ)
    → 0 < reading.bits → old.head + old.len ≤ length old.words.items * reading.bits
    → mid.head + mid.len ≤ length mid.words.items * reading.bits
    → vec_frame reading mid ≡ vec_frame reading old
    → length (vec_bits reading mid) ≡ length (vec_bits reading old) → k ≤ length (vec_bits reading old)
    → drop k (vec_bits reading mid) ≡ drop k (vec_bits reading old)
    → Shortens reading mid new k → LeavesFirst reading old new
leaves_first reading old mid new k some fits mid_fits frame size fewer rest cut =
    let b = reading.bits in
    let n : ℕ = length (vec_bits reading old) in
    let head : mid.head ≡ old.head = ap (λ f. f.place) frame in
    let held : n ≡ old.len = length-bits reading old fits in
    let mid_held : length (vec_bits reading mid) ≡ mid.len = length-bits reading mid mid_fits in
    let len : mid.len ≡ old.len = sym mid_held ∙ size ∙ held in
    let count : length mid.words.items ≡ length old.words.items = ap (λ f. f.words) frame in
    let w : ℕ = words_for b (old.head + n) in
    let within : w ≤ length old.words.items =
    words_within b (old.head + n) (length old.words.items) some (omega (arith, fits, held)) in
    let hold : old.head + n ≤ w * b = words_hold b (old.head + n) some in
    let product : w * b ≤ length old.words.items * b = mul-le-mul_right b within in
    let now = memory reading mid.words.items in
    let was = memory reading old.words.items in
    let shown : length (vec_bits reading new) ≡ k =
    ap length cut.bits ∙ length-take-le k (vec_bits reading mid) (omega (arith, fewer, size)) in
    let piece_is : vec_bits reading mid ≡ piece now old.head n =
    ap₂ (λ h m. piece now h m) head (len ∙ sym held) in
    let was_is : vec_bits reading old ≡ piece was old.head n = ap (piece was old.head) (sym held) in
    let before : take old.head now ≡ take old.head was = ap (λ h. take h now) (sym head) ∙ ap (λ f. f.before) frame in
    let behind : drop (old.head + n) now ≡ drop (old.head + n) was =
    ap₂ (λ h m. drop (h + m) now) (sym head) (sym size) ∙ ap (λ f. f.behind) frame in
    let front : take k (piece now old.head n) ≡ vec_bits reading new =
    ap (take k) (sym piece_is) ∙ sym cut.bits in
    let back : drop k (piece now old.head n) ≡ drop k (piece was old.head n) =
    ap (drop k) (sym piece_is) ∙ rest ∙ ap (drop k) was_is in
    let all : take (w * b) now ≡ with_piece (take (w * b) was) old.head (vec_bits reading new) =
    front_changed was now (vec_bits reading new) old.head n k (w * b) hold
    (omega (arith, product, length-memory reading old.words.items)) fewer shown before behind front back in
    let seen : visible reading mid ≡ take w mid.words.items =
    ap₂ (λ h m. take (words_for b (h + m)) mid.words.items) head size in
    let seen_memory : memory reading (visible reading mid)
    ≡ with_piece (memory reading (visible reading old)) old.head (vec_bits reading new) =
    ap (memory reading) seen
    ∙ memory-take reading mid.words.items w (omega (arith, within, count))
    ∙ all
    ∙ ap (λ m. with_piece m old.head (vec_bits reading new)) (sym (memory-take reading old.words.items w within)) in
    let fewer_words : ℕ = words_for b (vec_head new + length (vec_bits reading new)) in
    let seen_count : length (visible reading mid) ≡ w =
    ap length seen ∙ length-take-le w mid.words.items (omega (arith, within, count)) in
    let parts : old.head + k + (n - k) ≡ old.head + n = omega (arith, fewer) in
    let at_new : vec_head new + length (vec_bits reading new) ≡ old.head + k =
    ap₂ (λ h m. h + m) (cut.head ∙ head) shown in
    let low : fewer_words ≤ length (visible reading mid) =
    rw (at_new, seen_count, ← parts) (words_more b (old.head + k) (n - k) some) in
    let new_count : length (visible reading new) ≡ fewer_words =
    ap length cut.words ∙ length-take-le fewer_words (visible reading mid) low in
    record {
      words =
          ap (memory reading) cut.words
          ∙ memory-take reading (visible reading mid) fewer_words low
          ∙ ap₂ (λ m xs. take (m * b) xs) (sym new_count) seen_memory;
      head = cut.head ∙ head;
      room = cut.room ∙ ap₂ (λ c h. c * b - h) (ap (λ f. f.lender) frame) head;
    }
