-- The two ends of the indices that are left, and how many they are.
--
-- `indices-none`, `indices-first`, `indices-last`, `length-indices`; over two lists end to end: `indices-append`.
use Rattle.std.proofs.Common.{◌≡◌, ◌⊎◌, ℕ, suc, ◌+◌, ◌-◌, ◌<◌, Bool, true, false, cond, List, [], ◌∷◌, ◌++◌}
use Rattle.std.proofs.Common.{Some, None, length, get_or, position, count_by, refl, sym, ap, ◌∙◌, inl, inr, arith}
use Rattle.std.proofs.lemmas.List.Quantifiers.{position-Some}
use Rattle.std.proofs.lemmas.List.Recursion.{is_count_by}
use Rattle.bit_addressing_memory.specs.Memory.{piece}
use Rattle.bit_addressing_memory.proofs.MemoryLemmas.{length-piece, get_or-piece, piece_all, piece_join}
use Rattle.bit_slice_views.specs.Found.{last_position}
use Rattle.bit_slice_views.proofs.FoundLemmas.{position-None, last_position-Some, last_position-None}
use Rattle.bit_slice_iterators.proofs.BitLemmas.{piece_one}
use Rattle.bit_slice_iterators.specs.Indices.{indices}

pub cases_bool : (b : Bool) → (b ≡ true) ⊎ (b ≡ false)
cases_bool true = inl refl
cases_bool false = inr refl

-- none passes
pub indices-no : (test : Bool → Bool) (from : ℕ) (xs : List Bool)
    → ((k : ℕ) → k < length xs → test (get_or xs k false) ≡ false) → indices test from xs ≡ []
indices-no test from [] none = refl
indices-no test from (x ∷ xs) none =
    let here : test x ≡ false = none 0 (omega arith) in
    rw here (indices-no test (from + 1) xs (λ k low. none (suc k) (omega arith)))

-- two lists end to end
pub indices-append : (test : Bool → Bool) (from : ℕ) (xs ys : List Bool)
    → indices test from (xs ++ ys) ≡ indices test from xs ++ indices test (from + length xs) ys
indices-append test from [] ys = let same : from + 0 ≡ from = omega arith in rw same refl
indices-append test from (x ∷ xs) ys =
    let next : from + 1 + length xs ≡ from + suc (length xs) = omega arith in
    let rest : indices test (from + 1) (xs ++ ys)
    ≡ indices test (from + 1) xs ++ indices test (from + suc (length xs)) ys =
    indices-append test (from + 1) xs ys ∙ ap (λ n. indices test (from + 1) xs ++ indices test n ys) next in
    elim (cases_bool (test x)) [
      | inl here ↦ rw here (ap (λ l. from ∷ l) rest)
      | inr here ↦ rw here rest
    ]

-- a list cut at one bit that passes
indices-at : (test : Bool → Bool) (from i at next rest count : ℕ) (xs : List Bool) → i < length xs
    → test (get_or xs i false) ≡ true → at ≡ from + i → next ≡ at + 1 → rest ≡ i + 1 → count ≡ length xs - rest
    → indices test from xs ≡ indices test from (piece xs 0 i) ++ at ∷ indices test next (piece xs rest count)
indices-at test from i at next rest count xs low here is_at is_next is_rest is_count =
    let front : length (piece xs 0 i) ≡ i = length-piece xs 0 i (omega arith) in
    let one : piece xs i 1 ≡ get_or xs i false ∷ [] = piece_one xs i low in
    let tail : piece xs i (length xs - i) ≡ get_or xs i false ∷ piece xs rest count =
    sym (ap (λ ys. ys ++ piece xs rest count) (sym one)
    ∙ piece_join xs i 1 rest count (length xs - i) (omega arith) (omega arith)) in
    let whole : xs ≡ piece xs 0 i ++ get_or xs i false ∷ piece xs rest count =
    sym (ap (λ ys. piece xs 0 i ++ ys) (sym tail)
    ∙ piece_join xs 0 i i (length xs - i) (length xs) (omega arith) (omega arith) ∙ piece_all xs (length xs) refl) in
    let there : from + length (piece xs 0 i) ≡ at = omega arith in
    ap (indices test from) whole
    ∙ indices-append test from (piece xs 0 i) (get_or xs i false ∷ piece xs rest count)
    ∙ ap (λ n. indices test from (piece xs 0 i) ++ indices test n (get_or xs i false ∷ piece xs rest count)) there
    ∙ rw (here, is_next) refl

-- the first index, and the others
pub indices-first : (test : Bool → Bool) (from i at next rest count : ℕ) (xs : List Bool)
    → position test xs ≡ Some i → at ≡ from + i → next ≡ at + 1 → rest ≡ i + 1 → count ≡ length xs - rest
    → indices test from xs ≡ at ∷ indices test next (piece xs rest count)
indices-first test from i at next rest count xs found is_at is_next is_rest is_count =
    let first = position-Some test xs i false found in
    let before : indices test from (piece xs 0 i) ≡ [] = indices-no test from (piece xs 0 i) (λ k low.
    let size : length (piece xs 0 i) ≡ i = length-piece xs 0 i (omega (arith, first.0)) in
    let small : k < i = omega arith in
    let same : 0 + k ≡ k = omega arith in
    ap test (get_or-piece xs 0 i k false small) ∙ ap (λ q. test (get_or xs q false)) same ∙ first.2 k small) in
    indices-at test from i at next rest count xs first.0 first.1 is_at is_next is_rest is_count
    ∙ ap (λ l. l ++ at ∷ indices test next (piece xs rest count)) before

-- the last index, and the others
pub indices-last : (test : Bool → Bool) (from i at : ℕ) (xs : List Bool) → last_position test xs ≡ Some i
    → at ≡ from + i → indices test from xs ≡ indices test from (piece xs 0 i) ++ at ∷ []
indices-last test from i at xs found is_at =
    let last = last_position-Some test xs i false found in
    let low : i < length xs = last.0 in
    let rest : ℕ = i + 1 in
    let count : ℕ = length xs - rest in
    let after : indices test (at + 1) (piece xs rest count) ≡ [] =
    indices-no test (at + 1) (piece xs rest count) (λ k small.
    let size : length (piece xs rest count) ≡ count = length-piece xs rest count (omega arith) in
    let inside : k < count = omega arith in
    ap test (get_or-piece xs rest count k false inside) ∙ last.2 (rest + k) (omega arith) (omega arith)) in
    indices-at test from i at (at + 1) rest count xs low last.1 is_at refl refl refl
    ∙ ap (λ l. indices test from (piece xs 0 i) ++ at ∷ l) after

-- none is left where none is found
pub indices-none : (test : Bool → Bool) (from : ℕ) (xs : List Bool) → position test xs ≡ None
    → indices test from xs ≡ []
indices-none test from xs none =
    indices-no test from xs (λ k low. position-None test xs k false none low)

pub indices-none_last : (test : Bool → Bool) (from : ℕ) (xs : List Bool) → last_position test xs ≡ None
    → indices test from xs ≡ []
indices-none_last test from xs none =
    indices-no test from xs (λ k low. last_position-None test xs k false none low)

-- where the bit that was found lies
pub found_below : (test : Bool → Bool) (xs : List Bool) (i : ℕ) → position test xs ≡ Some i → i < length xs
found_below test xs i found = (position-Some test xs i false found).0

pub found_last_below : (test : Bool → Bool) (xs : List Bool) (i : ℕ) → last_position test xs ≡ Some i → i < length xs
found_last_below test xs i found = (last_position-Some test xs i false found).0

-- how many there are, whatever the first index
shifted : (test : Bool → Bool) (from other : ℕ) (xs : List Bool)
    → length (indices test from xs) ≡ length (indices test other xs)
shifted test from other [] = refl
shifted test from other (x ∷ xs) =
    let rest = shifted test (from + 1) (other + 1) xs in
    elim (cases_bool (test x)) [
      | inl here ↦ rw here (ap suc rest)
      | inr here ↦ rw here rest
    ]

one_more : (test : Bool → Bool) (x : Bool) (xs : List Bool)
    → length (indices test 0 (x ∷ xs)) ≡ cond (test x) (1 + length (indices test 0 xs)) (length (indices test 0 xs))
one_more test x xs =
    let rest = shifted test 1 0 xs in
    elim (cases_bool (test x)) [
      | inl here ↦ rw here (omega (arith, rest))
      | inr here ↦ rw here rest
    ]

pub length-indices : (test : Bool → Bool) (from : ℕ) (xs : List Bool) → length (indices test from xs) ≡ count_by test xs
length-indices test from xs =
    shifted test from 0 xs
    ∙ is_count_by (λ ys. length (indices test 0 ys)) test refl (λ y ys. one_more test y ys) xs

pub ruleset ends_of_indices =
    (indices-first, indices-last, indices-none, indices-none_last, found_below, found_last_below, length-indices)
