-- How lists of bits compare: `compare_differ` (the first two bits that differ), `compare_ends` (none differs), and both
-- at bits of memories, `windows_compare_differ`, `windows_compare_ends`.
use Rattle.std.proofs.Common.{◌≡◌, ◌≢◌, ℕ, zero, suc, ◌+◌, ◌*◌, ◌<◌, ◌≤◌, Bool, true, false, List, [], ◌∷◌, length}
use Rattle.std.proofs.Common.{get_or, refl, sym, ap, subst, ◌∙◌, arith}
use Rattle.std.specs.Cmp.Lexicographic.{slice_cmp}
use Rattle.std.specs.Cmp.{nat_cmp_is}
use Rattle.std.specs.Ordering.{MatchOrdering, bool_cmp, nat_cmp}
use Rattle.std.specs.declared.cmp.Ordering.{Ordering}
use Rattle.std.specs.declared.cmp.Ordering.TheVariants.{Less, Equal, Greater}
use Rattle.bit_addressing_memory.specs.Memory.{Reading, entry, memory, piece}
use Rattle.bit_addressing_memory.proofs.WindowLemmas.{length-window, window_bit}

same_first : (x y : Bool) (xs ys : List Bool) → x ≡ y → slice_cmp bool_cmp (x ∷ xs) (y ∷ ys) ≡ slice_cmp bool_cmp xs ys
same_first true true xs ys same = refl
same_first true false xs ys same = cc
same_first false true xs ys same = cc
same_first false false xs ys same = refl

other_first : (x y : Bool) (xs ys : List Bool) → x ≢ y → slice_cmp bool_cmp (x ∷ xs) (y ∷ ys) ≡ bool_cmp x y
other_first true true xs ys other = absurd (other refl)
other_first true false xs ys other = refl
other_first false true xs ys other = refl
other_first false false xs ys other = absurd (other refl)

-- the first two that differ decide
pub compare_differ : (xs ys : List Bool) (i : ℕ) → i < length xs → i < length ys
    → ((k : ℕ) → k < i → get_or xs k false ≡ get_or ys k false) → get_or xs i false ≢ get_or ys i false
    → slice_cmp bool_cmp xs ys ≡ bool_cmp (get_or xs i false) (get_or ys i false)
compare_differ [] ys i low low' same other = absurd (omega arith)
compare_differ (x ∷ xs) [] i low low' same other = absurd (omega arith)
compare_differ (x ∷ xs) (y ∷ ys) zero low low' same other = other_first x y xs ys other
compare_differ (x ∷ xs) (y ∷ ys) (suc i) low low' same other =
    same_first x y xs ys (same 0 (omega arith))
    ∙ compare_differ xs ys i (omega arith) (omega arith) (λ k small. same (suc k) (omega arith)) other

-- how two lengths compare
abbrev Lengths : ℕ → ℕ → Ordering → Type 0
Lengths n m r = MatchOrdering r (n < m) (n ≡ m) (m < n)

lengths_more : (n m : ℕ) (r : Ordering) → Lengths n m r → Lengths (suc n) (suc m) r
lengths_more n m Less is = omega arith
lengths_more n m Equal is = ap suc is
lengths_more n m Greater is = omega arith

lengths_decide : (xs ys : List Bool)
    → ((k : ℕ) → k < length xs → k < length ys → get_or xs k false ≡ get_or ys k false)
    → Lengths (length xs) (length ys) (slice_cmp bool_cmp xs ys)
lengths_decide [] [] same = refl
lengths_decide [] (y ∷ ys) same = omega arith
lengths_decide (x ∷ xs) [] same = omega arith
lengths_decide (x ∷ xs) (y ∷ ys) same =
    let first = same_first x y xs ys (same 0 (omega arith) (omega arith)) in
    let rest = lengths_decide xs ys (λ k low low'. same (suc k) (omega arith) (omega arith)) in
    subst (Lengths (suc (length xs)) (suc (length ys))) (sym first)
    (lengths_more (length xs) (length ys) (slice_cmp bool_cmp xs ys) rest)

-- where none differs the lengths do
pub compare_ends : (xs ys : List Bool)
    → ((k : ℕ) → k < length xs → k < length ys → get_or xs k false ≡ get_or ys k false)
    → slice_cmp bool_cmp xs ys ≡ nat_cmp (length xs) (length ys)
compare_ends xs ys same =
    nat_cmp_is (length xs) (length ys) (slice_cmp bool_cmp xs ys) (lengths_decide xs ys same)

-- bits of two memories: the first two that differ decide
pub windows_compare_differ : {R Q : Type 0} (reading : Reading R) (words : List R) (its : Reading Q) (others : List Q)
    (place other_place len other_len i : ℕ) (x y : Bool) (r : Ordering) → 0 < reading.bits → 0 < its.bits
    → place + len ≤ length words * reading.bits → other_place + other_len ≤ length others * its.bits
    → i < len → i < other_len → x ≡ entry reading words (place + i) → y ≡ entry its others (other_place + i)
    → ((k : ℕ) → k < i → entry reading words (place + k) ≡ entry its others (other_place + k)) → x ≢ y
    → r ≡ bool_cmp x y
    → r ≡ slice_cmp bool_cmp (piece (memory reading words) place len) (piece (memory its others) other_place other_len)
windows_compare_differ reading words its others place other_place len other_len i x y r some its_some fits its_fit low
    its_low is_x is_y same other now =
    let xs = piece (memory reading words) place len in
    let ys = piece (memory its others) other_place other_len in
    let size : length xs ≡ len = length-window reading words place len fits in
    let its_size : length ys ≡ other_len = length-window its others other_place other_len its_fit in
    let mine : get_or xs i false ≡ x = window_bit reading words place len i some low ∙ sym is_x in
    let theirs : get_or ys i false ≡ y = window_bit its others other_place other_len i its_some its_low ∙ sym is_y in
    let differ = compare_differ xs ys i (omega arith) (omega arith)
    (λ k small.
    window_bit reading words place len k some (omega arith)
    ∙ same k small
    ∙ sym (window_bit its others other_place other_len k its_some (omega arith)))
    (λ e. other (sym mine ∙ e ∙ theirs)) in
    now ∙ sym (differ ∙ ap (λ b. bool_cmp b (get_or ys i false)) mine ∙ ap (bool_cmp x) theirs)

-- bits of two memories: where none differs the lengths do
pub windows_compare_ends : {R Q : Type 0} (reading : Reading R) (words : List R) (its : Reading Q) (others : List Q)
    (place other_place len other_len : ℕ) (r : Ordering) → 0 < reading.bits → 0 < its.bits
    → place + len ≤ length words * reading.bits → other_place + other_len ≤ length others * its.bits
    → ((k : ℕ) → k < len → k < other_len → entry reading words (place + k) ≡ entry its others (other_place + k))
    → r ≡ nat_cmp len other_len
    → r ≡ slice_cmp bool_cmp (piece (memory reading words) place len) (piece (memory its others) other_place other_len)
windows_compare_ends reading words its others place other_place len other_len r some its_some fits its_fit same now =
    let xs = piece (memory reading words) place len in
    let ys = piece (memory its others) other_place other_len in
    let size : length xs ≡ len = length-window reading words place len fits in
    let its_size : length ys ≡ other_len = length-window its others other_place other_len its_fit in
    let ends = compare_ends xs ys (λ k low its_low.
    window_bit reading words place len k some (omega arith)
    ∙ same k (omega arith) (omega arith)
    ∙ sym (window_bit its others other_place other_len k its_some (omega arith))) in
    now ∙ sym (ends ∙ ap (λ n. nat_cmp n (length ys)) size ∙ ap (nat_cmp len) its_size)
