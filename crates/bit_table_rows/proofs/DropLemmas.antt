-- Rows taken out that bear a letter.
--
-- Of a list: `own_left`, `zeros_left`. Of rows' letters: `marks_dropped`.
use Rattle.std.proofs.Common.{◌≡◌, ℕ, ◌+◌, ◌<◌, ◌≤◌, Bool, true, false, cond, not, List, [], ◌∷◌}
use Rattle.std.proofs.Common.{length, replicate}
use Rattle.std.proofs.Common.{suc, refl, sym, ap, ◌∙◌, arith, length-take-le}
use Rattle.std.specs.List.{count_by, filter}
use Rattle.std.proofs.lemmas.List.Sums.{sum_by-cons}
use Rattle.bit_addressing_memory.specs.Memory.{Reading}
use Rattle.bit_slice_views_mut.specs.Frame.{Frame}
use Rattle.bit_containers_vector.proofs.CallerLemmas.{room_framed}
use Rattle.bit_containers_vector.specs.Vector.{Shortens, vec_bits, vec_frame}
use Rattle.bit_containers_vector.specs.declared.vector.BitVec.{BitVec}
use Rattle.bit_table_layout.specs.LetterSets.{letter_count, bears}
use Rattle.bit_table_rows.specs.Lists.{HasBits}
use Rattle.bit_table_rows.specs.Marks.{list_of, marks_of}
use Rattle.bit_table_rows.proofs.MarkLemmas.{column_marked, length-marks, marks_are, none_behind}
use Rattle.bit_table_rows.specs.RowsKept.{left_of}
use Rattle.bit_table_rows.proofs.KeptLemmas.{left_of-filter, left_of-map}

-- one flag more
counted : (goes : Bool) (off : List Bool) → count_by not (goes ∷ off) ≡ cond (not goes) 1 0 + count_by not off
counted goes off = sum_by-cons (λ b. cond (not b) 1 0) goes off

-- how many elements stay
pub length-left_of : {X : Type 0} (off : List Bool) (xs : List X) → length off ≡ length xs
    → length (left_of off xs) ≡ count_by not off
unfolding left_of
length-left_of [] xs same = refl
length-left_of (goes ∷ off) [] same = absurd (omega (arith, same))
length-left_of (true ∷ off) (x ∷ xs) same =
    let rest = length-left_of off xs (omega (arith, same)) in
    omega (arith, rest, counted true off)
length-left_of (false ∷ off) (x ∷ xs) same =
    let rest = length-left_of off xs (omega (arith, same)) in
    omega (arith, rest, counted false off)

-- of the flags themselves those stay that are false
pub own_left : (off : List Bool) → left_of off off ≡ replicate (count_by not off) false
unfolding left_of
own_left [] = refl
own_left (true ∷ off) =
    let same : count_by not off ≡ count_by not (true ∷ off) = omega (arith, counted true off) in
    own_left off ∙ ap (λ n. replicate n false) same
own_left (false ∷ off) =
    let next : suc (count_by not off) ≡ count_by not (false ∷ off) = omega (arith, counted false off) in
    ap (λ l. false ∷ l) (own_left off) ∙ ap (λ n. replicate n false) next

-- a list that was shortened and filled with zeros
pub zeros_left : {T O : Type 0} {g : _} (reading : Reading T) (old mid new : BitVec T O g) (left : ℕ)
    → left ≤ length (vec_bits reading old) → Shortens reading old mid left
    → vec_bits reading new ≡ replicate (length (vec_bits reading mid)) false
    → vec_frame reading new ≡ vec_frame reading mid
    → HasBits reading (λ bits. replicate left false) old new
zeros_left reading old mid new left few cut filled framed =
    let size : length (vec_bits reading mid) ≡ left =
    ap length cut.bits ∙ length-take-le left (vec_bits reading old) few in
    record {
      bits = filled ∙ ap (λ n. replicate n false) size;
      head = ap (λ (f : Frame ℕ). f.place) framed ∙ cut.head;
      room = omega (arith, cut.room, room_framed reading mid new framed);
    }

-- from each list those bits taken out where the list of letter x has a one
pub marks_dropped : (n x : ℕ) (lists after : List (List Bool)) → x < letter_count
    → ((y : ℕ) → y < letter_count → length (list_of lists y) ≡ n)
    → ((y : ℕ) → y < letter_count → list_of after y ≡ left_of (list_of lists x) (list_of lists y))
    → marks_of (count_by not (list_of lists x)) after ≡ filter (λ letters. not (bears x letters)) (marks_of n lists)
marks_dropped n x lists after low size left =
    let off = list_of lists x in
    let marks = marks_of n lists in
    let even : length off ≡ length marks = size x low ∙ sym (length-marks lists n) in
    marks_are after (count_by not off) (left_of off marks) (length-left_of off marks even)
    (λ y here. left_of-map (bears y) off marks
    ∙ ap (left_of off) (column_marked lists n y here (size y here)) ∙ sym (left y here))
    (λ y far. left_of-map (bears y) off marks
    ∙ ap (left_of off) (none_behind lists n y far) ∙ sym (left_of-map (λ s. false) off marks))
    ∙ ap (λ flags. left_of flags marks) (sym (column_marked lists n x low (size x low)))
    ∙ left_of-filter (bears x) marks
