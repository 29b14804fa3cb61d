-- The bits that are left of an array: a piece of its list, as far as that goes.
--
-- As far as it goes: `left_part`, `left_lent`. All of them: `left_all`. The two ends: `left-none`, `left-first`, `left-last`.
use Rattle.std.proofs.Common.{◌≡◌, ℕ, ◌+◌, ◌-◌, ◌*◌, ◌<◌, ◌≤◌, Bool, false, List, [], ◌∷◌, ◌++◌, length, min}
use Rattle.std.proofs.Common.{get_or, sym, ap, ◌∙◌, arith, rules, refl}
use Rattle.std.proofs.lemmas.List.{places, same_lists, length-take, length-drop}
use Rattle.bit_addressing_memory.specs.Memory.{Reading, memory, piece}
use Rattle.bit_addressing_memory.proofs.MemoryLemmas.{piece_all, piece_piece}
use Rattle.bit_addressing_memory.proofs.WindowLemmas.{length-window}
use Rattle.bit_slice_views.specs.SpanLimits.{MAX_BITS}
use Rattle.bit_slice_iterators.proofs.BitLemmas.{bits-none, bits-first, bits-last}
use Rattle.bit_containers_array.specs.Array.{first_bits}
use Rattle.bit_containers_array.specs.ArrayLaws.{first_fits}

-- a piece that passes the end is as much of it as there is
pub left_part : (xs : List Bool) (from count start n : ℕ) → start ≡ min from (length xs)
    → n ≡ min count (length xs - start) → piece xs start n ≡ piece xs from count
unfolding piece
left_part xs from count start n is_start is_n =
    same_lists (piece xs start n) (piece xs from count) (search (rules, places, is_start, is_n))
    (λ k d h. grind (arith, places))

size_of : (xs : List Bool) (from count : ℕ) → length (piece xs from count) ≡ min count (length xs - from)
unfolding piece
size_of xs from count = simp (length-take, length-drop) refl

-- all bits
pub left_all : (xs : List Bool) (n : ℕ) → n ≡ length xs → piece xs 0 n ≡ xs
left_all xs n is = piece_all xs n (sym is)

-- an array has no more bits than a window can have
pub first_short : {R : Type 0} (reading : Reading R) (words : List R) → length (first_bits reading words) ≤ MAX_BITS
first_short reading words =
    omega (arith, length-window reading words 0 (min (length words * reading.bits) MAX_BITS) (first_fits reading words))

-- what is left is a piece of the words' memory
pub left_lent : {R : Type 0} (reading : Reading R) (words : List R) (from count all start n : ℕ)
    → all ≡ length (first_bits reading words) → start ≡ min from all → n ≡ min count (all - start)
    → piece (memory reading words) start n ≡ piece (first_bits reading words) from count
left_lent reading words from count all start n is_all is_start is_n =
    let m = min (length words * reading.bits) MAX_BITS in
    let size : length (first_bits reading words) ≡ m = length-window reading words 0 m (first_fits reading words) in
    let here : start ≡ 0 + start = omega arith in
    ap (λ p. piece (memory reading words) p n) here
    ∙ sym (piece_piece (memory reading words) 0 m start n (omega (arith, size)))
    ∙ left_part (first_bits reading words) from count start n (rw (← is_all) is_start) (rw (← is_all) is_n)

-- where bits are left, the first of them is one of all bits
pub left_low : (xs : List Bool) (from count : ℕ) → 0 < length (piece xs from count) → from < length xs
left_low xs from count some = omega (arith, size_of xs from count)

-- the first of them, and the others
pub left-first : (xs : List Bool) (from count : ℕ) (x : Bool) (n : ℕ) → 0 < length (piece xs from count)
    → n ≡ length (piece xs from count) - 1 → x ≡ get_or (piece xs from count) 0 false
    → piece xs from count ≡ x ∷ piece xs (from + 1) n
left-first xs from count x n some size is =
    bits-first (piece xs from count) x n some size is
    ∙ ap (λ ys. x ∷ ys) (piece_piece xs from count 1 n (omega (arith, size_of xs from count)))

-- the last of them, and the others
pub left-last : (xs : List Bool) (from count : ℕ) (x : Bool) (n : ℕ) → 0 < length (piece xs from count)
    → n ≡ length (piece xs from count) - 1 → x ≡ get_or (piece xs from count) n false
    → piece xs from count ≡ piece xs from n ++ x ∷ []
left-last xs from count x n some size is =
    let here : from + 0 ≡ from = omega arith in
    bits-last (piece xs from count) x n some size is
    ∙ ap (λ ys. ys ++ x ∷ []) (piece_piece xs from count 0 n (omega (arith, size_of xs from count))
    ∙ ap (λ p. piece xs p n) here)

pub ruleset left = (left_all, first_short, left_low, bits-none, left-first, left-last)
