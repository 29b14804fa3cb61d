-- The lists of letters, by their bits.
use Rattle.std.proofs.Common.{◌≡◌, ◌≢◌, ℕ, ◌+◌, ◌<◌, ◌≤◌, ◌⊎◌, inl, inr, ◌++◌, Bool, List, [], ◌∷◌, length, map}
use Rattle.std.proofs.Common.{set as put, get_or, refl, sym, ap, ◌∙◌, subst, arith}
use Rattle.std.proofs.lemmas.Bool.{cases_eq}
use Rattle.std.proofs.lemmas.List.{get_or-map, get_or-set_same, get_or-set_other, length-map, length-set}
use Rattle.std.proofs.lemmas.List.{map-set, same_lists}
use Rattle.bit_addressing_memory.specs.Memory.{Reading}
use Rattle.bit_slice_views.specs.SpanLimits.{MAX_BITS}
use Rattle.bit_containers_vector.specs.Vector.{vec_bits}
use Rattle.bit_containers_vector.specs.declared.vector.BitVec.{BitVec}
use Rattle.bit_table_rows.specs.Lists.{HasBits, IsColumn, AreColumns}
use Rattle.bit_table_layout.specs.LetterSets.{letter_count}
use Rattle.bit_table_rows.specs.Marks.{list_of}
use Rattle.bit_table_rows.specs.Walk.{Becomes, ChangesAt, EachHas}

-- no bit at all
pub none_of : (xs : List Bool) → length xs ≡ 0 → xs ≡ []
none_of [] none = refl
none_of (x ∷ xs) none = absurd (omega (arith, none))

-- one of the lists, since there are some
pub some_list : {A : Type 0} (lists : List A) → length lists ≡ letter_count → A
some_list [] count = absurd (omega (arith, count))
some_list (v ∷ vs) count = v

module _ {T O : Type 0} {G : _} (reading : Reading T) (n : ℕ) (lists : List (BitVec T O G))
    (h : AreColumns reading n lists) where
  -- the list of a letter, read
  pub column_is : (x : ℕ) (d : BitVec T O G) → x < letter_count
      → list_of (map (vec_bits reading) lists) x ≡ vec_bits reading (get_or lists x d)
  column_is x d low = get_or-map (vec_bits reading) lists x d [] (omega (arith, h.count))

  -- how long it is
  pub column_size : (x : ℕ) → x < letter_count → length (list_of (map (vec_bits reading) lists) x) ≡ n
  column_size x low =
      let d = some_list lists h.count in
      ap length (column_is x d low) ∙ (h.each x d (omega (arith, h.count))).len

  -- how many lists there are
  pub columns_count : length (map (vec_bits reading) lists) ≡ letter_count
  columns_count = length-map lists (vec_bits reading) ∙ h.count

  -- more bits, of which there may be so many
  pub columns_short : (more : ℕ) → n + more ≤ MAX_BITS
      → EachHas (λ v. length (vec_bits reading v) + more ≤ MAX_BITS) lists
  columns_short more most k d low = omega (arith, (h.each k d low).len, most)

  -- the lists after an edit of each
  module _ (after : List (BitVec T O G)) (m : ℕ) (now : List Bool → List Bool)
      (b : Becomes (λ k. HasBits reading now) lists after) where
    pub column_after : (x : ℕ) → x < letter_count
        → list_of (map (vec_bits reading) after) x ≡ now (list_of (map (vec_bits reading) lists) x)
    column_after x low =
        let d = some_list lists h.count in
        get_or-map (vec_bits reading) after x d [] (omega (arith, h.count, b.len))
        ∙ (b.each x d (omega (arith, h.count))).bits ∙ ap now (sym (column_is x d low))

    pub columns_after : m ≤ MAX_BITS → ((xs : List Bool) → length xs ≡ n → length (now xs) ≡ m) → AreColumns reading m after
    columns_after short sized = record {
      count = b.len ∙ h.count;
      each = λ k d low.
          let before = h.each k d (omega (arith, b.len, low)) in
          let step = b.each k d (omega (arith, b.len, low)) in
          record { len = ap length step.bits ∙ sized _ before.len; head = step.head ∙ before.head };
      short = short;
    }

  -- the lists after a change of one of them
  module _ (after : List (BitVec T O G)) (x : ℕ) (now : BitVec T O G → List Bool → List Bool) (low : x < letter_count)
      (ch : ChangesAt (λ v w. (d : BitVec T O G) → HasBits reading (now d) v w) x lists after) where
    pub bits_changed : (d : BitVec T O G)
        → map (vec_bits reading) after
        ≡ put (map (vec_bits reading) lists) x (now d (list_of (map (vec_bits reading) lists) x))
    bits_changed d =
        ap (map (vec_bits reading)) ch.is ∙ map-set (vec_bits reading) lists x ch.now
        ∙ ap (put (map (vec_bits reading) lists) x) ((ch.by d d).bits ∙ ap (now d) (sym (column_is x d low)))

    pub columns_changed : ((d : BitVec T O G) (xs : List Bool) → length xs ≡ n → length (now d xs) ≡ n)
        → AreColumns reading n after
    columns_changed sized = record {
      count = ap length ch.is ∙ length-set lists x ch.now ∙ h.count;
      each = λ k d here.
          subst (IsColumn reading n) (ap (λ l. get_or l k d) (sym ch.is)) (column k d here (cases_eq k x));
      short = h.short;
    } where
      its : (d : BitVec T O G) → IsColumn reading n ch.now
      its d =
          let was = h.each x d (omega (arith, h.count, low)) in
          let step = ch.by d d in
          record { len = ap length step.bits ∙ sized d _ was.len; head = step.head ∙ was.head }

      column : (k : ℕ) (d : BitVec T O G) → k < length after → (k ≡ x) ⊎ (k ≢ x)
          → IsColumn reading n (get_or (put lists x ch.now) k d)
      column k d here (inl same) =
          let inside : x < length lists = omega (arith, h.count, low) in
          subst (λ j. IsColumn reading n (get_or (put lists x ch.now) j d)) (sym same)
          (subst (IsColumn reading n) (sym (get_or-set_same lists x ch.now d inside)) (its d))
      column k d here (inr apart) =
          let inside : k < length lists = omega (arith, here, ap length ch.is, length-set lists x ch.now) in
          subst (IsColumn reading n) (sym (get_or-set_other lists x k ch.now d apart)) (h.each k d inside)

-- lists that were made the same
pub columns_same : {T O : Type 0} {G : _} (reading : Reading T) (lists after : List (BitVec T O G))
    → Becomes (λ k. HasBits reading (λ bits. bits)) lists after → map (vec_bits reading) after ≡ map (vec_bits reading) lists
columns_same reading [] [] b = refl
columns_same reading [] (w ∷ ws) b = absurd (omega (arith, b.len))
columns_same reading (v ∷ vs) after b =
    let count : length after ≡ length (v ∷ vs) = b.len in
    same_lists _ _ (length-map after (vec_bits reading) ∙ count ∙ sym (length-map (v ∷ vs) (vec_bits reading)))
    (λ k d low. let below : k < length (v ∷ vs) = omega (arith, length-map after (vec_bits reading), count, low) in
    get_or-map (vec_bits reading) after k v d (omega (arith, count, below)) ∙ (b.each k v below).bits
    ∙ sym (get_or-map (vec_bits reading) (v ∷ vs) k v d below))

-- lists that held no bit, and had those of others added
module _ {T O Q P : Type 0} {G H : _} (reading : Reading T) (other : Reading Q) (n : ℕ) (lists after : List (BitVec T O G))
    (others : List (BitVec Q P H)) (h : AreColumns reading 0 lists) (k : AreColumns other n others)
    (b : Becomes (λ i old new. (d : BitVec Q P H)
    → HasBits reading (λ bits. bits ++ vec_bits other (get_or others i d)) old new) lists after) where
  copied_at : (i : ℕ) (d : BitVec T O G) (e : BitVec Q P H) → i < letter_count
      → vec_bits reading (get_or after i d) ≡ vec_bits other (get_or others i e)
  copied_at i d e low =
      let here : i < length lists = omega (arith, low, h.count) in
      (b.each i d here e).bits
      ∙ ap (λ bits. bits ++ vec_bits other (get_or others i e)) (none_of (vec_bits reading (get_or lists i d)) (h.each i d here).len)

  pub columns_copied : map (vec_bits reading) after ≡ map (vec_bits other) others
  columns_copied =
      let d = some_list after (b.len ∙ h.count) in
      let e = some_list others k.count in
      let size = b.len ∙ h.count in
      same_lists _ _ (length-map after (vec_bits reading) ∙ size ∙ sym (length-map others (vec_bits other) ∙ k.count))
      (λ i xs low. let below : i < letter_count = omega (arith, length-map after (vec_bits reading), size, low) in
      get_or-map (vec_bits reading) after i d xs (omega (arith, size, below)) ∙ copied_at i d e below
      ∙ sym (get_or-map (vec_bits other) others i e xs (omega (arith, k.count, below))))

  pub are_columns_copied : AreColumns reading n after
  are_columns_copied = record {
    count = b.len ∙ h.count;
    each = λ i d low.
        let e = some_list others k.count in
        let here : i < length lists = omega (arith, b.len, low) in
        let below : i < letter_count = omega (arith, h.count, here) in
        record {
          len = ap length (copied_at i d e below) ∙ (k.each i e (omega (arith, k.count, below))).len;
          head = (b.each i d here e).head ∙ (h.each i d here).head;
        };
    short = k.short;
  }
