-- What the first and the last bit of a kind tell of a list.
use Rattle.std.proofs.Common.{◌≡◌, ◌⊎◌, ℕ, ◌-◌, ◌<◌, ◌≤◌, Bool, true, false, not, List, [], ◌∷◌, Option, Some, None}
use Rattle.std.proofs.Common.{length, position, cond, nat_lt, refl, sym, ap, ◌∙◌, inl, inr, arith}
use Rattle.std.proofs.lemmas.List.{length-reverse}
use Rattle.std.proofs.lemmas.List.Sums.{prefix_len-le-length}
use Rattle.std.proofs.lemmas.Bool.Decides.{nat_tests}
use Rattle.std.specs.List.{position_or_len, list_all, list_any}
use Rattle.std.specs.Option.{option_map}
use Rattle.std.specs.Prelude.{reverse}
use Rattle.bit_slice_words.specs.Found.{is_bit, last_position}

cases_bool : (b : Bool) → (b ≡ true) ⊎ (b ≡ false)
cases_bool true = inl refl
cases_bool false = inr refl

-- an element is found exactly where one passes
passes_any : {X : Type 0} (p : X → Bool) (xs : List X) → nat_lt (position_or_len p xs) (length xs) ≡ list_any p xs
passes_any p [] = grind (arith, nat_tests)
passes_any p (x ∷ xs) =
    let rest = passes_any p xs in
    elim (cases_bool (p x)) [
      | inl passes ↦ rw passes (grind (arith, nat_tests))
      | inr fails ↦ rw fails (grind (arith, nat_tests))
    ]

found_where : (b : Bool) (m i : ℕ) → cond b (Some m) None ≡ Some i → (b ≡ true) × (m ≡ i)
found_where true m i e = (refl, cc)
found_where false m i e = cc

none_where : (b : Bool) (m : ℕ) → cond b (Some m) None ≡ None → b ≡ false
none_where true m e = cc
none_where false m e = refl

-- where an element is found
pub found_at : {X : Type 0} (p : X → Bool) (xs : List X) (i : ℕ) → position p xs ≡ Some i
    → (position_or_len p xs ≡ i) × (i < length xs)
found_at p xs i e =
    let is = found_where (nat_lt (position_or_len p xs) (length xs)) (position_or_len p xs) i e in
    let at : position_or_len p xs ≡ i = is.1 in
    let low : nat_lt (position_or_len p xs) (length xs) ≡ true = is.0 in
    (at, grind (arith, nat_tests))

-- and that none is
pub found_none : {X : Type 0} (p : X → Bool) (xs : List X) → position p xs ≡ None
    → position_or_len p xs ≡ length xs
found_none p xs e =
    let is = none_where (nat_lt (position_or_len p xs) (length xs)) (position_or_len p xs) e in
    let most : position_or_len p xs ≤ length xs = prefix_len-le-length (λ x. not (p x)) xs in
    grind (arith, nat_tests)

pub any_found : {X : Type 0} (p : X → Bool) (xs : List X) (i : ℕ) → position p xs ≡ Some i → list_any p xs ≡ true
any_found p xs i e =
    sym (passes_any p xs) ∙ (found_where (nat_lt (position_or_len p xs) (length xs)) (position_or_len p xs) i e).0

pub any_none : {X : Type 0} (p : X → Bool) (xs : List X) → position p xs ≡ None → list_any p xs ≡ false
any_none p xs e =
    sym (passes_any p xs) ∙ none_where (nat_lt (position_or_len p xs) (length xs)) (position_or_len p xs) e

-- each bit is 1 exactly where none is 0
each_not_any : (xs : List Bool) → list_all (λ b. b) xs ≡ not (list_any not xs)
each_not_any [] = refl
each_not_any (true ∷ xs) = each_not_any xs
each_not_any (false ∷ xs) = refl

pub all_found : (xs : List Bool) (i : ℕ) → position (is_bit false) xs ≡ Some i → list_all (λ b. b) xs ≡ false
all_found xs i e = each_not_any xs ∙ ap not (any_found (is_bit false) xs i e)

pub all_none : (xs : List Bool) → position (is_bit false) xs ≡ None → list_all (λ b. b) xs ≡ true
all_none xs e = each_not_any xs ∙ ap not (any_none (is_bit false) xs e)

-- where the last one is, counted from the end
map_some : (n : ℕ) (o : Option ℕ) (i : ℕ) → option_map (λ j. n - 1 - j) o ≡ Some i
    → (j : ℕ) × (o ≡ Some j) × (n - 1 - j ≡ i)
map_some n None i e = cc
map_some n (Some j) i e = (j, refl, cc)

map_none : (n : ℕ) (o : Option ℕ) → option_map (λ j. n - 1 - j) o ≡ None → o ≡ None
map_none n None e = refl
map_none n (Some j) e = cc

pub last_at : {X : Type 0} (p : X → Bool) (xs : List X) (i : ℕ) → last_position p xs ≡ Some i
    → (position_or_len p (reverse xs) ≡ length xs - 1 - i) × (i < length xs)
unfolding last_position
last_at p xs i e =
    let is = map_some (length xs) (position p (reverse xs)) i e in
    let there = found_at p (reverse xs) is.0 is.1 in
    let size : length (reverse xs) ≡ length xs = length-reverse xs in
    (omega (arith, there, is.2), omega (arith, there, is.2))

pub last_none : {X : Type 0} (p : X → Bool) (xs : List X) → last_position p xs ≡ None
    → position_or_len p (reverse xs) ≡ length xs
unfolding last_position
last_none p xs e =
    found_none p (reverse xs) (map_none (length xs) (position p (reverse xs)) e) ∙ length-reverse xs

pub ruleset found = (found_at, found_none, last_at, last_none, any_found, any_none, all_found, all_none)
