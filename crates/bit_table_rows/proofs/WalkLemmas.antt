-- A walk over a list that changes one element after another.
use Rattle.std.proofs.Common.{◌≡◌, ◌≢◌, ℕ, ◌+◌, ◌-◌, ◌<◌, ◌≤◌, ◌⊎◌, ◌++◌, inl, inr, List, length, get_or, set}
use Rattle.std.proofs.Common.{refl, sym, ap, ◌∙◌, subst, arith}
use Rattle.std.proofs.lemmas.Bool.{cases_eq, cases_lt}
use Rattle.std.proofs.lemmas.List.{get_or-set_same, get_or-set_other, length-set, set-append_left, set-append_right}
use Rattle.std.proofs.lemmas.List.{get_or_append_left, get_or-append_right, get_or_default}
use Rattle.bit_table_rows.specs.Walk.{Becomes, ChangesAt, IsWalked}

module _ {A : Type 0} (step : ℕ → A → A → Type 0) where
  -- nothing is changed yet
  pub walk_begins : (xs : List A) → IsWalked step 0 xs xs
  walk_begins xs = record {
    len = refl;
    done = λ k d low. absurd (omega (arith, low));
    rest = λ k d far. refl;
  }

  -- one element more
  pub walk_goes_on : (i : ℕ) (old new : List A) (w : A) → IsWalked step i old new → i < length old
      → ((d : A) → step i (get_or old i d) w) → IsWalked step (i + 1) old (set new i w)
  walk_goes_on i old new w h low now = record {
    len = length-set new i w ∙ h.len;
    done = λ k d below. done_or_now k d (cases_lt k i) below;
    rest = λ k d far. get_or-set_other new i k w d (apart_above k far) ∙ h.rest k d (omega (arith, far));
  } where
    apart_above : (k : ℕ) → i + 1 ≤ k → k ≢ i
    apart_above k far = omega (arith, far)

    apart_below : (k : ℕ) → k < i → k ≢ i
    apart_below k below = omega (arith, below)

    done_or_now : (k : ℕ) (d : A) → (k < i) ⊎ (i ≤ k) → k < i + 1 → step k (get_or old k d) (get_or (set new i w) k d)
    done_or_now k d (inl below) _ =
        subst (step k (get_or old k d)) (sym (get_or-set_other new i k w d (apart_below k below))) (h.done k d below)
    done_or_now k d (inr far) below =
        let same : i ≡ k = omega arith in
        subst (λ j. step j (get_or old j d) (get_or (set new i w) j d)) same
        (subst (step i (get_or old i d)) (sym (get_or-set_same new i w d (omega (arith, h.len, low)))) (now d))

  -- one element more, of which nothing is said
  pub walk_skips : (i : ℕ) (old new : List A) → IsWalked step i old new → ((v w : A) → step i v w)
      → IsWalked step (i + 1) old new
  walk_skips i old new h free = record {
    len = h.len;
    done = λ k d below. done_or_free k d (cases_lt k i) below;
    rest = λ k d far. h.rest k d (omega (arith, far));
  } where
    done_or_free : (k : ℕ) (d : A) → (k < i) ⊎ (i ≤ k) → k < i + 1 → step k (get_or old k d) (get_or new k d)
    done_or_free k d (inl below) _ = h.done k d below
    done_or_free k d (inr far) below =
        let same : i ≡ k = omega arith in
        subst (λ j. step j (get_or old j d) (get_or new j d)) same (free (get_or old i d) (get_or new i d))

  -- one element more, of a list that was changed there alone
  pub walk_changes : (i : ℕ) (old new after : List A) → IsWalked step i old new → i < length old
      → ChangesAt (step i) i new after → IsWalked step (i + 1) old after
  walk_changes i old new after h low ch =
      subst (IsWalked step (i + 1) old) (sym ch.is)
      (walk_goes_on i old new ch.now h low
      (λ d. subst (λ v. step i v ch.now) (h.rest i d (omega arith)) (ch.by d)))

  -- each element was changed
  pub walk_ends : (i : ℕ) (old new : List A) → IsWalked step i old new → length old ≤ i → Becomes step old new
  walk_ends i old new h all = record { len = h.len; each = λ k d low. h.done k d (omega (arith, low, all)) }

  -- the walk stopped, and those that it did not come to are as before
  pub walk_stops : ((k : ℕ) (v : A) → step k v v) → (i : ℕ) (old new : List A) → IsWalked step i old new
      → Becomes step old new
  walk_stops stays i old new h = record { len = h.len; each = λ k d low. done_or_before k d (cases_lt k i) } where
    done_or_before : (k : ℕ) (d : A) → (k < i) ⊎ (i ≤ k) → step k (get_or old k d) (get_or new k d)
    done_or_before k d (inl below) = h.done k d below
    done_or_before k d (inr far) = subst (step k (get_or old k d)) (sym (h.rest k d far)) (stays k (get_or old k d))

-- each element but one was changed, and that one is changed last
pub walk_closes : {A : Type 0} (step : A → A → Type 0) (x i : ℕ) (old new : List A) (b : A)
    → IsWalked (λ k v w. k ≢ x → step v w) i old new → length old ≤ i → ((d : A) → step (get_or old x d) b)
    → Becomes (λ k. step) old (set new x b)
walk_closes {A} step x i old new b h all last =
    record { len = length-set new x b ∙ h.len; each = λ k d low. last_or_done k d low (cases_eq k x) } where
      last_or_done : (k : ℕ) (d : A) → k < length old → (k ≡ x) ⊎ (k ≢ x) → step (get_or old k d) (get_or (set new x b) k d)
      last_or_done k d low (inl same) =
          let here : x < length new = omega (arith, h.len, low, same) in
          subst (λ j. step (get_or old j d) (get_or (set new x b) j d)) (sym same)
          (subst (step (get_or old x d)) (sym (get_or-set_same new x b d here)) (last d))
      last_or_done k d low (inr apart) =
          subst (step (get_or old k d)) (sym (get_or-set_other new x k b d apart))
          (h.done k d (omega (arith, low, all)) apart)

-- those that were changed have a property, and so has one more
pub holds_goes_on : {A : Type 0} (P : A → Type 0) (i : ℕ) (new : List A) (w : A) → i < length new
    → ((k : ℕ) (d : A) → k < i → P (get_or new k d)) → P w
    → (k : ℕ) (d : A) → k < i + 1 → P (get_or (set new i w) k d)
holds_goes_on {A} P i new w low had now k d below = either (cases_lt k i) where
  either : (k < i) ⊎ (i ≤ k) → P (get_or (set new i w) k d)
  either (inl before) =
      let apart : k ≢ i = omega (arith, before) in
      subst P (sym (get_or-set_other new i k w d apart)) (had k d before)
  either (inr far) =
      let same : i ≡ k = omega (arith, far, below) in
      subst (λ j. P (get_or (set new i w) j d)) same (subst P (sym (get_or-set_same new i w d low)) now)

-- an element of a list that was cut in two, changed by one of the other part: `step w v now` says what v becomes by w
module _ {A : Type 0} (step : A → A → A → Type 0) (xs front back : List A) (cut : xs ≡ front ++ back) where
  -- elements of the parts are those of the list
  front_is : (i : ℕ) (v d : A) → i < length front → get_or front i v ≡ get_or xs i d
  front_is i v d low =
      get_or_default front i v d low ∙ sym (ap (λ l. get_or l i d) cut ∙ get_or_append_left front back d i low)

  back_is : (m : ℕ) (w d : A) → length front ≡ m → 0 < length back → get_or back 0 w ≡ get_or xs m d
  back_is m w d long some =
      let none : m - m ≡ 0 = omega arith in
      get_or_default back 0 w d some
      ∙ sym (ap (λ l. get_or l m d) cut ∙ get_or-append_right front back m m d long (omega arith)
      ∙ ap (λ k. get_or back k d) none)

  module _ (i m : ℕ) (v w : A) (long : length front ≡ m) (low : i < m) (some : 0 < length back) where
    -- one of the first part, by the first of the second
    pub changed_in_front : (now : A) → step (get_or back 0 w) (get_or front i v) now
        → ChangesAt (λ old new. (d : A) → step (get_or xs m d) old new) i xs (set front i now ++ back)
    changed_in_front now is = record {
      now = now;
      is = sym (ap (λ l. set l i now) cut ∙ set-append_left front back i now (omega arith));
      by = λ e d.
          subst (λ x. step x (get_or xs i e) now) (back_is m w d long some)
          (subst (λ x. step (get_or back 0 w) x now) (front_is i v e (omega arith)) is);
    }

    -- the first of the second part, by one of the first
    pub changed_in_back : (now : A) → step (get_or front i v) (get_or back 0 w) now
        → ChangesAt (λ old new. (d : A) → step (get_or xs i d) old new) m xs (front ++ set back 0 now)
    changed_in_back now is =
        let none : m - m ≡ 0 = omega arith in
        record {
          now = now;
          is =
              sym (ap (λ l. set l m now) cut ∙ set-append_right front back m m now long (omega arith)
              ∙ ap (λ k. front ++ set back k now) none);
          by = λ e d.
              subst (λ x. step x (get_or xs m e) now) (front_is i v d (omega arith))
              (subst (λ x. step (get_or front i v) x now) (back_is m w e long some) is);
        }

-- an element changed by itself
pub changed_alone : {A : Type 0} (step : A → A → A → Type 0) (xs : List A) (i j : ℕ) (v now : A) → i < length xs
    → i ≡ j → step (get_or xs i v) (get_or xs i v) now
    → ChangesAt (λ old new. (d : A) → step (get_or xs j d) old new) i xs (set xs i now)
changed_alone step xs i j v now low same is = record {
  now = now;
  is = refl;
  by = λ e d.
      subst (λ k. step (get_or xs k d) (get_or xs i e) now) same
      (subst (λ x. step x (get_or xs i e) now) (get_or_default xs i v d low)
      (subst (λ x. step (get_or xs i v) x now) (get_or_default xs i v e low) is));
}
