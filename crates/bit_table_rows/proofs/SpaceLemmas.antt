-- For how many rows the lists of letters have memory.
use Rattle.std.proofs.Common.{◌≡◌, ◌≢◌, ℕ, ◌<◌, ◌≤◌, ◌⊎◌, inl, inr, Bool, List, length, map, set as put, get_or, refl, sym}
use Rattle.std.proofs.Common.{subst, ap, ◌∙◌, arith}
use Rattle.std.proofs.lemmas.Bool.{cases_eq}
use Rattle.std.proofs.lemmas.List.{get_or_default, get_or-set_same, get_or-set_other, length-set}
use Rattle.bit_addressing_memory.specs.declared.BitRegister.{Ghosts}
use Rattle.bit_addressing_memory.specs.Memory.{Reading, read_by}
use Rattle.bit_slice_views_mut.specs.Frame.{Frame}
use Rattle.bit_containers_vector.proofs.CallerLemmas.{room_framed, room_holds}
use Rattle.bit_containers_vector.specs.Vector.{room, vec_bits, vec_frame, vec_head}
use Rattle.bit_containers_vector.specs.declared.vector.BitVec.{BitVec}
use Rattle.bit_table_rows.specs.Lists.{AreColumns, HasBits, HaveSpace}
use Rattle.bit_table_rows.specs.Marks.{marks_of, LettersView}
use Rattle.bit_table_rows.proofs.ColumnLemmas.{columns_changed, columns_same}
use Rattle.bit_table_rows.specs.Walk.{Becomes, ChangesAt}
use Rattle.bit_table_layout.specs.LetterSets.{LetterSet, letter_count}

-- the letters of the rows and the number, where the views are equal
pub sets_are : {v w : LettersView} → v ≡ w → v.sets ≡ w.sets
sets_are same = ap (λ (v : LettersView). v.sets) same

pub space_is : {v w : LettersView} → v ≡ w → v.space ≡ w.space
space_is same = ap (λ (v : LettersView). v.space) same

-- these letters, with memory for so many rows
abbrev pub letters_view : List LetterSet → ℕ → LettersView
letters_view sets space = record { sets = sets; space = space }

-- nothing was done
pub all_as_before : {T O : Type 0} {G : _} (reading : Reading T) (lists : List (BitVec T O G))
    → Becomes (λ k. HasBits reading (λ bits. bits)) lists lists
all_as_before reading lists = record {
  len = refl;
  each = λ k d low. record { bits = refl; head = refl; room = omega arith };
}

-- lists that were made the same, for as many rows
pub refused_same : {T O : Type 0} {G : _} (reading : Reading T) (n space : ℕ) (lists after : List (BitVec T O G))
    → Becomes (λ k. HasBits reading (λ bits. bits)) lists after
    → letters_view (marks_of n (map (vec_bits reading) after)) space
    ≡ letters_view (marks_of n (map (vec_bits reading) lists)) space
refused_same reading n space lists after same =
    ap (λ l. letters_view (marks_of n l) space) (columns_same reading lists after same)

-- they have memory for the rows that there are
pub space_held : {T O : Type 0} {G : Ghosts T} (position : ℕ → ℕ) (n : ℕ) (lists : List (BitVec T O G))
    → AreColumns (read_by G position) n lists → HaveSpace (read_by G position) n n lists
space_held position n lists h = record {
  within = omega arith;
  each = λ k d low. omega (arith, (h.each k d low).len, room_holds position (get_or lists k d));
}

module _ {T O : Type 0} {G : _} (reading : Reading T) (n space : ℕ) (lists : List (BitVec T O G))
    (h : HaveSpace reading n space lists) where
  -- after an edit of each list
  pub space_after : (m : ℕ) (after : List (BitVec T O G)) (now : List Bool → List Bool)
      → Becomes (λ k. HasBits reading now) lists after → m ≤ space → HaveSpace reading m space after
  space_after m after now b few = record {
    within = few;
    each = λ k d low.
        let here : k < length lists = omega (arith, b.len, low) in
        omega (arith, h.each k d here, (b.each k d here).room);
  }

  -- after a change of one of them
  pub space_put : (x : ℕ) (w : BitVec T O G) → x < length lists
      → ((d : BitVec T O G) → room reading (get_or lists x d) ≤ room reading w)
      → HaveSpace reading n space (put lists x w)
  space_put x w inside grown = record { within = h.within; each = λ k d here. at k d here (cases_eq k x) } where
    at : (k : ℕ) (d : BitVec T O G) → k < length (put lists x w) → (k ≡ x) ⊎ (k ≢ x)
        → space ≤ room reading (get_or (put lists x w) k d)
    at k d here (inl same) =
        subst (λ j. space ≤ room reading (get_or (put lists x w) j d)) (sym same)
        (subst (λ v. space ≤ room reading v) (sym (get_or-set_same lists x w d inside))
        (omega (arith, h.each x d inside, grown d)))
    at k d here (inr apart) =
        subst (λ v. space ≤ room reading v) (sym (get_or-set_other lists x k w d apart))
        (h.each k d (omega (arith, here, length-set lists x w)))

  pub space_changed : (after : List (BitVec T O G)) (x : ℕ) (now : BitVec T O G → List Bool → List Bool)
      → x < length lists
      → ChangesAt (λ v w. (d : BitVec T O G) → HasBits reading (now d) v w) x lists after
      → HaveSpace reading n space after
  space_changed after x now inside ch =
      subst (HaveSpace reading n space) (sym ch.is)
      (space_put x ch.now inside (λ d. (ch.by d d).room))

  -- after a write of one of them
  pub space_framed : (x : ℕ) (v w : BitVec T O G) → x < length lists
      → vec_frame reading w ≡ vec_frame reading (get_or lists x v) → HaveSpace reading n space (put lists x w)
  space_framed x v w inside same =
      space_put x w inside
      (λ d. subst (λ u. room reading u ≤ room reading w) (get_or_default lists x v d inside)
      (omega (arith, room_framed reading (get_or lists x v) w same)))

pub columns_framed : {T O : Type 0} {G : _} (reading : Reading T) (n : ℕ) (lists : List (BitVec T O G))
    (h : AreColumns reading n lists) (x : ℕ) (v w : BitVec T O G) → x < letter_count
    → length (vec_bits reading w) ≡ length (vec_bits reading (get_or lists x v))
    → vec_frame reading w ≡ vec_frame reading (get_or lists x v) → AreColumns reading n (put lists x w)
columns_framed reading n lists h x v w low size same =
    let inside : x < length lists = omega (arith, h.count, low) in
    let head : vec_head w ≡ vec_head (get_or lists x v) = ap (λ (f : Frame ℕ). f.place) same in
    let wide : room reading (get_or lists x v) ≤ room reading w =
    omega (arith, room_framed reading (get_or lists x v) w same) in
    columns_changed reading n lists h (put lists x w) x (λ d xs. vec_bits reading w) low
    (record {
      now = w;
      is = refl;
      by = λ e d. record {
        bits = refl;
        head = subst (λ u. vec_head w ≡ vec_head u) (get_or_default lists x v e inside) head;
        room = subst (λ u. room reading u ≤ room reading w) (get_or_default lists x v e inside) wide;
      };
    })
    (λ d xs long. size ∙ (h.each x v inside).len)
