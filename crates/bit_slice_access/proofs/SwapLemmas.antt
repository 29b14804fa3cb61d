-- Two lists exchanged, part by part from the first on, or element by element.
--
-- Those before the next part, and those from it on: `part_below`, `part_above`; of one element: `changed_below`,
-- `changed_above`. All of them: `changed_all`. By what differs: `first_twice`, `second_twice`.
use Rattle.std.proofs.Common.{◌≡◌, ◌≢◌, ℕ, ◌+◌, ◌-◌, ◌<◌, ◌≤◌, ◌∙◌}
use Rattle.std.proofs.Common.{Bool, false, List, length, get_or, set, ap, arith, inl, inr}
use Rattle.std.proofs.Common.{get_or-set_same, get_or-set_other, refl, replicate, sym, take_all, true}
use mathlib.Core.Bool.{xor}
use Rattle.std.specs.Simd.Lanes.{zip2}
use Rattle.std.proofs.lemmas.Simd.{get_or-zip2, length-zip2}
use Rattle.std.proofs.lemmas.Bool.{cases_eq, cases_lt}
use Rattle.std.proofs.lemmas.List.{ext_get_or, take-append-le}
use Rattle.bit_addressing_memory.specs.Memory.{piece, with_piece}
use Rattle.bit_slice_views_mut.specs.Combined.{combined}
use Rattle.bit_addressing_memory.proofs.MemoryLemmas.{get_or-piece, length-piece, with_piece_above, with_piece_below}
use Rattle.bit_addressing_memory.proofs.MemoryLemmas.{with_piece_inside}

-- the elements below i of xs are those of ys, and now the n from i on too, of a list that still has them
pub part_below : (xs ys zs : List Bool) (i n : ℕ) → i + n ≤ length xs → i + n ≤ length zs
    → ((k : ℕ) → i ≤ k → get_or zs k false ≡ get_or ys k false)
    → ((k : ℕ) → k < i → get_or xs k false ≡ get_or ys k false)
    → (k : ℕ) → k < i + n → get_or (with_piece xs i (piece zs i n)) k false ≡ get_or ys k false
part_below xs ys zs i n room fits still so_far k below =
    let part = piece zs i n in
    let size : length part ≡ n = length-piece zs i n fits in
    elim (cases_lt k i) [
      | inl before ↦ with_piece_below xs i part k false (omega arith) before ∙ so_far k before
      | inr from ↦
          let back : i + (k - i) ≡ k = omega arith in
          let small : k - i < n = omega arith in
          with_piece_inside xs i part k (k - i) false (omega arith) (omega arith) (omega arith)
          ∙ get_or-piece zs i n (k - i) false small
          ∙ ap (λ q. get_or zs q false) back
          ∙ still k from
    ]

-- the elements from i on of xs are those of ys, and those past the n from i on still are
pub part_above : (xs ys zs : List Bool) (i n : ℕ) → i + n ≤ length xs → i + n ≤ length zs
    → ((k : ℕ) → i ≤ k → get_or xs k false ≡ get_or ys k false)
    → (k : ℕ) → i + n ≤ k → get_or (with_piece xs i (piece zs i n)) k false ≡ get_or ys k false
part_above xs ys zs i n room fits so_far k above =
    let part = piece zs i n in
    let size : length part ≡ n = length-piece zs i n fits in
    with_piece_above xs i part k false (omega arith) (omega arith) ∙ so_far k (omega arith)

-- the elements below i of xs are those of ys, and now the one at i too
pub changed_below : (xs ys : List Bool) (i : ℕ) (bit : Bool) → i < length xs → bit ≡ get_or ys i false
    → ((k : ℕ) → k < i → get_or xs k false ≡ get_or ys k false)
    → (k : ℕ) → k < i + 1 → get_or (set xs i bit) k false ≡ get_or ys k false
changed_below xs ys i bit low is so_far k below = elim (cases_eq k i) [
  | inl same ↦ rw same (get_or-set_same xs i bit false low ∙ is)
  | inr other ↦ get_or-set_other xs i k bit false other ∙ so_far k (omega arith)
]

-- the elements from i on of xs are those of zs, and those past i still are
pub changed_above : (xs zs : List Bool) (i : ℕ) (bit : Bool)
    → ((k : ℕ) → i ≤ k → get_or xs k false ≡ get_or zs k false)
    → (k : ℕ) → i + 1 ≤ k → get_or (set xs i bit) k false ≡ get_or zs k false
changed_above xs zs i bit so_far k above =
    let other : k ≢ i = omega arith in
    get_or-set_other xs i k bit false other ∙ so_far k (omega arith)

-- all elements of xs are those of ys
pub changed_all : (xs ys : List Bool) (n : ℕ) → length xs ≡ length ys → length xs ≡ n
    → ((k : ℕ) → k < n → get_or xs k false ≡ get_or ys k false) → xs ≡ ys
changed_all xs ys n size all same = ext_get_or false xs ys size (λ k low. same k (omega arith))

-- ---- by what differs

combined_same : (xs ys : List Bool) → length ys ≡ length xs → combined xor xs ys ≡ zip2 xor xs ys
combined_same xs ys same =
    ap (zip2 xor xs) (take-append-le (length xs) ys (replicate (length xs) false) (omega (arith, same))
    ∙ take_all (length xs) ys (omega (arith, same)))

length-differ : (xs ys : List Bool) → length ys ≡ length xs → length (combined xor xs ys) ≡ length xs
length-differ xs ys same = ap length (combined_same xs ys same) ∙ length-zip2 xor xs ys (sym same)

get_or-differ : (xs ys : List Bool) (k : ℕ) → length ys ≡ length xs → k < length xs
    → get_or (combined xor xs ys) k false ≡ xor (get_or xs k false) (get_or ys k false)
get_or-differ xs ys k same low =
    ap (λ bs. get_or bs k false) (combined_same xs ys same)
    ∙ get_or-zip2 xor xs ys k false false false low (omega (arith, same))

back_first : (x y : Bool) → xor y (xor x y) ≡ x
unfolding xor
back_first true true = refl
back_first true false = refl
back_first false true = refl
back_first false false = refl

back_second : (x y : Bool) → xor (xor x y) x ≡ y
unfolding xor
back_second true true = refl
back_second true false = refl
back_second false true = refl
back_second false false = refl

-- where ys are flipped by what differs, they become xs
pub first_twice : (xs ys more : List Bool) → length ys ≡ length xs → more ≡ combined xor xs ys
    → combined xor ys more ≡ xs
first_twice xs ys more same is =
    let size : length more ≡ length xs = ap length is ∙ length-differ xs ys same in
    let all : length (combined xor ys more) ≡ length ys = length-differ ys more (size ∙ sym same) in
    ext_get_or false (combined xor ys more) xs (all ∙ same) (λ k low.
    get_or-differ ys more k (size ∙ sym same) (omega (arith, all))
    ∙ ap (xor (get_or ys k false)) (ap (λ bs. get_or bs k false) is ∙ get_or-differ xs ys k same (omega (arith, all, same)))
    ∙ back_first (get_or xs k false) (get_or ys k false))

-- and those that differ become ys
pub second_twice : (xs ys more : List Bool) → length ys ≡ length xs → more ≡ combined xor xs ys
    → combined xor more xs ≡ ys
second_twice xs ys more same is =
    let size : length more ≡ length xs = ap length is ∙ length-differ xs ys same in
    let all : length (combined xor more xs) ≡ length more = length-differ more xs (sym size) in
    ext_get_or false (combined xor more xs) ys (all ∙ size ∙ sym same) (λ k low.
    get_or-differ more xs k (sym size) (omega (arith, all))
    ∙ ap (λ b. xor b (get_or xs k false)) (ap (λ bs. get_or bs k false) is
    ∙ get_or-differ xs ys k same (omega (arith, all, size)))
    ∙ back_second (get_or xs k false) (get_or ys k false))
