-- A bit found in a list.
--
-- The test: `without_bit`.
-- The first index: `position_found`, `position_missing`, and back, `position-None` (std has `position-Some`).
-- The last index: `last_position_found`, `last_position_missing`, and back, `last_position-Some`,
-- `last_position-None`. Counted from the edges: `leading_are`, `trailing_are`.
use Rattle.std.proofs.Common.{◌≡◌, ℕ, ◌-◌, ◌<◌, ◌≤◌, Bool, true, false, not, cond, nat_lt, List, Option, Some}
use Rattle.std.proofs.Common.{None, length, reverse, get_or, position, refl, sym, ap, ◌∙◌, arith}
use Rattle.std.specs.List.{position_or_len, prefix_len, suffix_len}
use Rattle.std.specs.Option.{option_map, option_map_or, unwrap_or}
use Rattle.std.proofs.lemmas.Bool.{lt-ltb, ltb-true, ltb-false}
use Rattle.std.proofs.lemmas.Bool.Decides.{nat_tests}
use Rattle.std.proofs.lemmas.List.{length-reverse, get_or-reverse}
use Rattle.std.proofs.lemmas.List.Quantifiers.{position-Some}
use Rattle.std.proofs.lemmas.List.Sums.{position_or_len_is, prefix_len_passes, prefix_len-le-length}
use Rattle.bit_slice_words.specs.Found.{is_bit, last_position}

-- ---- the test

-- two bits that are not this one are equal
pub without_bit : (bit x y : Bool) → is_bit bit x ≡ false → is_bit bit y ≡ false → x ≡ y
without_bit true x y out out' = out ∙ sym out'
without_bit false true true out out' = refl
without_bit false true false out out' = cc
without_bit false false y out out' = cc

-- ---- the first index

not_below : (n : ℕ) → nat_lt n n ≡ false
not_below n = grind (arith, nat_tests)

-- an element that passes, and none before it
pub position_found : {X : Type 0} (test : X → Bool) (xs : List X) (i : ℕ) (d : X) → i < length xs
    → ((k : ℕ) → k < i → test (get_or xs k d) ≡ false) → test (get_or xs i d) ≡ true → position test xs ≡ Some i
position_found test xs i d low before here =
    let is : position_or_len test xs ≡ i = position_or_len_is test xs i d (omega arith) before (λ _. here) in
    rw (is, lt-ltb i (length xs) low) refl

-- none that passes
pub position_missing : {X : Type 0} (test : X → Bool) (xs : List X) (d : X)
    → ((k : ℕ) → k < length xs → test (get_or xs k d) ≡ false) → position test xs ≡ None
position_missing test xs d none =
    let is : position_or_len test xs ≡ length xs =
    position_or_len_is test xs (length xs) d (omega arith) none (λ h. absurd (omega arith)) in
    rw (is, not_below (length xs)) refl

-- where no index is the first, none passes
pub position-None : {X : Type 0} (test : X → Bool) (xs : List X) (k : ℕ) (d : X) → position test xs ≡ None
    → k < length xs → test (get_or xs k d) ≡ false
position-None test xs k d none low =
    let n : ℕ = position_or_len test xs in
    let all : length xs ≤ n = stays n (length xs) (nat_lt n (length xs)) refl none in
    passes_not (test (get_or xs k d)) (prefix_len_passes (λ x. not (test x)) xs k d (omega arith))
  where
    stays : (n m : ℕ) (b : Bool) → nat_lt n m ≡ b → cond b (Some n) None ≡ None → m ≤ n
    stays n m true less none = cc
    stays n m false less none = ltb-false n m less

    passes_not : (b : Bool) → not b ≡ true → b ≡ false
    passes_not true is = cc
    passes_not false is = refl

-- ---- the last index

-- an element that passes, and none after it
pub last_position_found : {X : Type 0} (test : X → Bool) (xs : List X) (i : ℕ) (d : X) → i < length xs
    → ((k : ℕ) → i < k → k < length xs → test (get_or xs k d) ≡ false) → test (get_or xs i d) ≡ true
    → last_position test xs ≡ Some i
unfolding last_position
last_position_found test xs i d low after here =
    let n : ℕ = length xs in
    let j : ℕ = n - 1 - i in
    let size : length (reverse xs) ≡ n = length-reverse xs in
    let back : n - 1 - j ≡ i = omega arith in
    let found : position test (reverse xs) ≡ Some j = position_found test (reverse xs) j d (omega arith)
    (λ k small. ap test (get_or-reverse xs k d (omega arith)) ∙ after (n - 1 - k) (omega arith) (omega arith))
    (ap test (get_or-reverse xs j d (omega arith)) ∙ ap (λ q. test (get_or xs q d)) back ∙ here) in
    ap (option_map (λ q. n - 1 - q)) found ∙ ap Some back

-- none that passes
pub last_position_missing : {X : Type 0} (test : X → Bool) (xs : List X) (d : X)
    → ((k : ℕ) → k < length xs → test (get_or xs k d) ≡ false) → last_position test xs ≡ None
unfolding last_position
last_position_missing test xs d none =
    let n : ℕ = length xs in
    let size : length (reverse xs) ≡ n = length-reverse xs in
    let missing : position test (reverse xs) ≡ None = position_missing test (reverse xs) d
    (λ k small. ap test (get_or-reverse xs k d (omega arith)) ∙ none (n - 1 - k) (omega arith)) in
    ap (option_map (λ q. n - 1 - q)) missing

-- an index that is the last passes, and none after it does
pub last_position-Some : {X : Type 0} (test : X → Bool) (xs : List X) (i : ℕ) (d : X) → last_position test xs ≡ Some i
    → (i < length xs) × (test (get_or xs i d) ≡ true)
    × ((k : ℕ) → i < k → k < length xs → test (get_or xs k d) ≡ false)
unfolding last_position
last_position-Some test xs i d is =
    from_end test xs i d (position test (reverse xs)) refl is
  where
    from_end : {X : Type 0} (test : X → Bool) (xs : List X) (i : ℕ) (d : X) (r : Option ℕ)
        → position test (reverse xs) ≡ r → option_map (λ q. length xs - 1 - q) r ≡ Some i
        → (i < length xs) × (test (get_or xs i d) ≡ true)
        × ((k : ℕ) → i < k → k < length xs → test (get_or xs k d) ≡ false)
    from_end test xs i d None found is = cc
    from_end test xs i d (Some j) found is =
        let n : ℕ = length xs in
        let size : length (reverse xs) ≡ n = length-reverse xs in
        let first = position-Some test (reverse xs) j d found in
        let low : j < n = omega (arith, first.0) in
        let back : n - 1 - j ≡ i = cc in (
          omega arith,
          ap (λ q. test (get_or xs q d)) (sym back) ∙ sym (ap test (get_or-reverse xs j d low)) ∙ first.1,
          λ k later small.
              let m : ℕ = n - 1 - k in
              let there : n - 1 - m ≡ k = omega arith in
              let in_list : m < n = omega arith in
              ap (λ q. test (get_or xs q d)) (sym there) ∙ sym (ap test (get_or-reverse xs m d in_list))
              ∙ first.2 m (omega arith),
        )

-- where no index is the last, none passes
pub last_position-None : {X : Type 0} (test : X → Bool) (xs : List X) (k : ℕ) (d : X) → last_position test xs ≡ None
    → k < length xs → test (get_or xs k d) ≡ false
unfolding last_position
last_position-None test xs k d is low =
    let n : ℕ = length xs in
    let m : ℕ = n - 1 - k in
    let size : length (reverse xs) ≡ n = length-reverse xs in
    let there : n - 1 - m ≡ k = omega arith in
    let none : position test (reverse xs) ≡ None = mapped (λ i. n - 1 - i) (position test (reverse xs)) is in
    let in_list : m < n = omega arith in
    ap (λ q. test (get_or xs q d)) (sym there) ∙ sym (ap test (get_or-reverse xs m d in_list))
    ∙ position-None test (reverse xs) m d none (omega arith)
  where
    mapped : (f : ℕ → ℕ) (r : Option ℕ) → option_map f r ≡ None → r ≡ None
    mapped f None is = refl
    mapped f (Some j) is = cc

-- ---- counted from the edges

-- how many elements stand before the first that passes
pub leading_are : {X : Type 0} (test : X → Bool) (xs : List X)
    → unwrap_or (position test xs) (length xs) ≡ prefix_len (λ x. not (test x)) xs
leading_are test xs =
    let n : ℕ = position_or_len test xs in
    let most : n ≤ length xs = prefix_len-le-length (λ x. not (test x)) xs in
    counted n (length xs) (nat_lt n (length xs)) refl most
  where
    counted : (n m : ℕ) (b : Bool) → nat_lt n m ≡ b → n ≤ m → unwrap_or (cond b (Some n) None) m ≡ n
    counted n m true less most = refl
    counted n m false less most =
        let least : m ≤ n = ltb-false n m less in
        omega arith

-- and how many behind the last
pub trailing_are : {X : Type 0} (test : X → Bool) (xs : List X)
    → option_map_or (λ i. length xs - 1 - i) (last_position test xs) (length xs) ≡ suffix_len (λ x. not (test x)) xs
unfolding last_position
trailing_are test xs =
    let ys = reverse xs in
    let n : ℕ = position_or_len test ys in
    let most : n ≤ length ys = prefix_len-le-length (λ x. not (test x)) ys in
    counted n (length ys) (length xs) (nat_lt n (length ys)) refl most (length-reverse xs)
  where
    counted : (n m k : ℕ) (b : Bool) → nat_lt n m ≡ b → n ≤ m → m ≡ k
        → option_map_or (λ i. k - 1 - i) (option_map (λ i. k - 1 - i) (cond b (Some n) None)) k ≡ n
    counted n m k true less most size =
        let low : n < m = ltb-true n m less in
        omega arith
    counted n m k false less most size =
        let least : m ≤ n = ltb-false n m less in
        omega arith
