-- The texts of bits.
--
-- A group's number: `number_more` (one more bit), `group_small` (of three bits), `piece_ends` (of those that are left).
-- Where a group begins: `group_within`. Groups of one bit: `groups_one`.
use Rattle.std.proofs.Common.{◌≡◌, ℕ, ◌+◌, ◌-◌, ◌*◌, ◌<◌, ◌≤◌, Bool, true, false, List, [], ◌∷◌, ◌++◌, length}
use Rattle.std.proofs.Common.{get_or, map, take, drop, min, refl, sym, ap, ◌∙◌, inl, inr, zero-add, arith}
use Rattle.std.proofs.lemmas.Bool.{cases_lt}
use Rattle.std.proofs.lemmas.List.{take_more, take_all, length-drop, get_or-drop, get_or-map, length-map}
use Rattle.std.proofs.lemmas.List.FromFn.{fill_by_all}
use Rattle.std.proofs.lemmas.List.Sums.{fold-append}
use Rattle.std.specs.Int.{div_ceil, from_bool}
use Rattle.std.proofs.lemmas.Grind.{div_ceil_times}
use Rattle.std.proofs.Math.Nat.{mul-le-mul_right}
use Rattle.std.specs.List.{range_with_len}
use Rattle.bit_addressing_memory.specs.Memory.{piece}
use Rattle.bit_addressing_memory.proofs.MemoryLemmas.{length-piece, piece_none}
use Rattle.bit_slice_views.specs.Texts.{number_of, groups}

-- one more bit
number-append : (xs : List Bool) (b : Bool) → number_of (xs ++ b ∷ []) ≡ 2 * number_of xs + from_bool b
number-append xs b = fold-append (λ n b. 2 * n + from_bool b) 0 xs (b ∷ [])

pub piece_more : (xs : List Bool) (p m : ℕ) → p + m < length xs
    → piece xs p (m + 1) ≡ piece xs p m ++ get_or xs (p + m) false ∷ []
unfolding piece
piece_more xs p m low =
    take_more (drop p xs) m false (simp length-drop (omega arith))
    ∙ ap (λ b. take m (drop p xs) ++ b ∷ []) (get_or-drop p xs m false)

pub number_more : (xs : List Bool) (p m : ℕ) → p + m < length xs
    → number_of (piece xs p (m + 1)) ≡ 2 * number_of (piece xs p m) + from_bool (get_or xs (p + m) false)
number_more xs p m low =
    ap number_of (piece_more xs p m low) ∙ number-append (piece xs p m) (get_or xs (p + m) false)

-- a piece that would pass the end
pub piece_ends : (xs : List Bool) (p n : ℕ) → p ≤ length xs
    → piece xs p (min n (length xs - p)) ≡ piece xs p n
unfolding piece
piece_ends xs p n low = elim (cases_lt (length xs - p) n) [
  | inl past ↦
      let size : length (drop p xs) ≡ length xs - p = length-drop p xs in
      let is : min n (length xs - p) ≡ length xs - p = omega arith in
      ap (λ k. take k (drop p xs)) is ∙ take_all (length xs - p) (drop p xs) (omega arith)
      ∙ sym (take_all n (drop p xs) (omega arith))
  | inr enough ↦
      let is : min n (length xs - p) ≡ n = omega arith in
      ap (λ k. take k (drop p xs)) is
]

pub bit_small : (b : Bool) → from_bool b ≤ 1
bit_small true = omega arith
bit_small false = omega arith

-- three bits at most are a number below 8
pub number_small : (xs : List Bool) → length xs ≤ 3 → number_of xs < 8
number_small [] h = omega arith
number_small (a ∷ []) h = omega (arith, bit_small a)
number_small (a ∷ b ∷ []) h = omega (arith, bit_small a, bit_small b)
number_small (a ∷ b ∷ c ∷ []) h = omega (arith, bit_small a, bit_small b, bit_small c)
number_small (a ∷ b ∷ c ∷ d ∷ xs) h = absurd (omega arith)

pub group_small : (xs : List Bool) (p m : ℕ) → p + m ≤ length xs → m ≤ 3 → number_of (piece xs p m) < 8
group_small xs p m within few = number_small (piece xs p m) (omega (arith, length-piece xs p m within))

-- a group begins in the list
pub group_within : (len size j : ℕ) → 0 < size → j < div_ceil len size → j * size ≤ len
group_within len size j some low =
    let over : div_ceil len size * size < len + size = (div_ceil_times len size some).1 in
    let full : (j + 1) * size ≤ div_ceil len size * size = mul-le-mul_right size (omega arith) in
    omega arith

-- groups of one bit are the bits
pub groups_one : (bits : List Bool) → groups 1 bits ≡ map from_bool bits
groups_one bits =
    let count : div_ceil (length bits) 1 ≡ length bits = omega arith in
    let one : ℕ → ℕ = λ j. number_of (piece bits (j * 1) 1) in
    ap (λ n. map one (range_with_len 0 n)) count
    ∙ sym (fill_by_all one (map from_bool bits) (length bits) 0 (length-map bits from_bool) (λ k low.
    let at : k * 1 + 0 ≡ k = omega arith in
    let none : number_of (piece bits (k * 1) 0) ≡ 0 = ap number_of (piece_none bits (k * 1) 0 refl) in
    let here : number_of (piece bits (k * 1) 1) ≡ from_bool (get_or bits k false) =
    number_more bits (k * 1) 0 (omega arith)
    ∙ ap (λ n. 2 * n + from_bool (get_or bits (k * 1 + 0) false)) none
    ∙ zero-add (from_bool (get_or bits (k * 1 + 0) false))
    ∙ ap (λ i. from_bool (get_or bits i false)) at in
    get_or-map from_bool bits k false 0 low ∙ sym here))
