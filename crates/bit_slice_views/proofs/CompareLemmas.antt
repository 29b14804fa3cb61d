-- Lists of bits compared.
--
-- What `==` of std tells: `equal_own`, `equal_same`, `equal_decided`. A list that begins or ends with another:
-- `starts_decided`, `ends_decided`; it is then no shorter: `start_fits`, `end_fits`. Bits of two memories:
-- `windows_told`.
use Rattle.std.proofs.Common.{◌≡◌, ◌⊎◌, ◌↔◌, ℕ, ◌+◌, ◌-◌, ◌*◌, ◌<◌, ◌≤◌, [], ◌∷◌}
use Rattle.std.proofs.Common.{get_or, Bool, true, false, List, length, take, drop}
use Rattle.std.proofs.Common.{IsTrue, refl, sym, ap, ◌∙◌, inl, inr, arith}
use Rattle.std.proofs.lemmas.List.{length-take, length-drop}
use Rattle.std.specs.Bool.{beq}
use Rattle.std.specs.Cmp.Lexicographic.{pointwise}
use Rattle.bit_addressing_memory.specs.Memory.{Reading, entry, memory, piece}
use Rattle.bit_addressing_memory.proofs.WindowLemmas.{window_bit}
use Rattle.bit_slice_words.proofs.SameLemmas.{windows_equal}
use Rattle.bit_slice_views.proofs.ViewLemmas.{view_front, view_rest}

cases_bool : (b : Bool) → (b ≡ true) ⊎ (b ≡ false)
cases_bool true = inl refl
cases_bool false = inr refl

pub equal_own : (xs : List Bool) → pointwise beq xs xs ≡ true
equal_own [] = refl
equal_own (true ∷ xs) = equal_own xs
equal_own (false ∷ xs) = equal_own xs

pub equal_same : (xs ys : List Bool) → pointwise beq xs ys ≡ true → xs ≡ ys
equal_same [] [] h = refl
equal_same [] (y ∷ ys) h = cc
equal_same (x ∷ xs) [] h = cc
equal_same (true ∷ xs) (true ∷ ys) h = ap (λ l. true ∷ l) (equal_same xs ys h)
equal_same (true ∷ xs) (false ∷ ys) h = cc
equal_same (false ∷ xs) (true ∷ ys) h = cc
equal_same (false ∷ xs) (false ∷ ys) h = ap (λ l. false ∷ l) (equal_same xs ys h)

-- a test that says whether two lists are one is std's comparison of them
pub equal_decided : (r : Bool) (xs ys : List Bool) → (IsTrue r → xs ≡ ys) → (xs ≡ ys → IsTrue r)
    → r ≡ pointwise beq xs ys
equal_decided true xs ys to from =
    let same : xs ≡ ys = to refl in
    rw (← same) (sym (equal_own xs))
equal_decided false xs ys to from = elim (cases_bool (pointwise beq xs ys)) [
  | inl same ↦ let wrong : false ≡ true = from (equal_same xs ys same) in cc
  | inr other ↦ sym other
]

-- a list that begins with another has as many bits
pub start_fits : (xs ys : List Bool) → take (length ys) xs ≡ ys → length ys ≤ length xs
start_fits xs ys same =
    let size : length (take (length ys) xs) ≡ length ys = ap length same in
    omega (arith, length-take (length ys) xs)

-- and one that ends with another
pub end_fits : (xs ys : List Bool) → drop (length xs - length ys) xs ≡ ys → length ys ≤ length xs
end_fits xs ys same =
    let size : length (drop (length xs - length ys) xs) ≡ length ys = ap length same in
    omega (arith, length-drop (length xs - length ys) xs)

-- the part that is compared tells it, at the beginning and at the end
pub starts_decided : (r : Bool) (xs ys part : List Bool) (n : ℕ) → n ≡ length ys → part ≡ piece xs 0 n
    → (IsTrue r → part ≡ ys) × (part ≡ ys → IsTrue r)
    → (IsTrue r → take (length ys) xs ≡ ys) × (take (length ys) xs ≡ ys → IsTrue r)
starts_decided r xs ys part n count is decided =
    let front : part ≡ take (length ys) xs = is ∙ view_front xs n ∙ ap (λ k. take k xs) count in
    (λ yes. sym front ∙ decided.0 yes, λ same. decided.1 (front ∙ same))

pub ends_decided : (r : Bool) (xs ys part : List Bool) (m n : ℕ) → m ≡ length xs → n ≡ length ys → n ≤ m
    → part ≡ piece xs (m - n) n → (IsTrue r → part ≡ ys) × (part ≡ ys → IsTrue r)
    → (IsTrue r → drop (length xs - length ys) xs ≡ ys) × (drop (length xs - length ys) xs ≡ ys → IsTrue r)
ends_decided r xs ys part m n size count fits is decided =
    let at : m - n ≡ length xs - length ys = omega arith in
    let back : part ≡ drop (length xs - length ys) xs =
    is ∙ view_rest xs (m - n) n (omega arith) ∙ ap (λ k. drop k xs) at in
    (λ yes. sym back ∙ decided.0 yes, λ same. decided.1 (back ∙ same))

-- as many bits of two memories are one list exactly where their entries are equal
pub windows_told : {R : Type 0} (reading : Reading R) (words others : List R) (place other_place len : ℕ) (r : Bool)
    → 0 < reading.bits → place + len ≤ length words * reading.bits → other_place + len ≤ length others * reading.bits
    → IsTrue r ↔ ((k : ℕ) → k < len → entry reading words (place + k) ≡ entry reading others (other_place + k))
    → IsTrue r ↔ (piece (memory reading words) place len ≡ piece (memory reading others) other_place len)
windows_told reading words others place other_place len r some fits others_fit told =
    let one = window_bit reading words place len in
    let other = window_bit reading others other_place len in (
      λ yes. windows_equal reading words reading others place other_place len some some fits others_fit (told.0 yes),
      λ same. told.1 (λ k low. sym (one k some low) ∙ ap (λ xs. get_or xs k false) same ∙ other k some low),
    )

pub ruleset ends = (start_fits, end_fits)
