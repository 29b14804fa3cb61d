-- Lists of bits, read past their end as false: after a write, longer by zeros, combined with another list, moved down.
use Rattle.std.proofs.Common.{◌≡◌, ℕ, zero, suc, ◌+◌, ◌-◌, ◌<◌, ◌&&◌, Bool, true, false, cond, List, [], ◌∷◌, ◌++◌}
use Rattle.std.proofs.Common.{length, get_or, set, drop, take, replicate, min, refl, sym, ap, ◌∙◌, inl, inr, arith}
use Rattle.std.proofs.Common.{eqb, ltb}
use Rattle.std.proofs.Math.Nat.{min-eq_left, min-eq_right}
use Rattle.std.proofs.Math.Seq.{take-length}
use Rattle.std.proofs.Math.Bool.{and-true, and-false}
use Rattle.std.proofs.lemmas.Bool.{cases_lt, cases_eq, true≢false}
use Rattle.std.proofs.lemmas.Bool.Decides.{nat_tests}
use Rattle.std.proofs.lemmas.List.{get_or-append_right, get_or_append_left, get_or-replicate, get_or-take}
use Rattle.std.proofs.lemmas.List.{get_or-drop}
use Rattle.std.proofs.lemmas.List.{get_or_past, get_or-set_same, get_or-set_other, places, take_all}
use Rattle.std.proofs.lemmas.Simd.{get_or-zip2, length-zip2}
use Rattle.std.specs.List.{list_any}
use Rattle.bit_addressing_memory.specs.Memory.{piece}
use Rattle.bit_slice_views_mut.specs.Combined.{combined, fitted}

-- the bit at an index, and false past the end
abbrev pub bit : List Bool → ℕ → Bool
bit xs k = get_or xs k false

-- after a write
pub bit-set : (xs : List Bool) (i k : ℕ) (b : Bool) → i < length xs → bit (set xs i b) k ≡ cond (eqb k i) b (bit xs k)
bit-set xs i k b low =
    elim (cases_eq k i) [
      | inl same ↦
          let yes : eqb k i ≡ true = grind (arith, nat_tests) in
          ap (λ n. bit (set xs i b) n) same ∙ get_or-set_same xs i b false low
          ∙ sym (ap (λ t. cond t b (bit xs k)) yes)
      | inr other ↦
          let no : eqb k i ≡ false = grind (arith, nat_tests) in
          get_or-set_other xs i k b false other ∙ sym (ap (λ t. cond t b (bit xs k)) no)
    ]

-- zeros behind a list change no bit of it
pub bit-padded : (xs : List Bool) (m k : ℕ) → bit (xs ++ replicate m false) k ≡ bit xs k
bit-padded xs m k =
    elim (cases_lt k (length xs)) [
      | inl low ↦ get_or_append_left xs (replicate m false) false k low
      | inr high ↦
          elim (cases_lt (k - length xs) m) [
            | inl inside ↦
                get_or-append_right xs (replicate m false) (length xs) k false refl high
                ∙ get_or-replicate m (k - length xs) false false inside ∙ sym (get_or_past xs k false high)
            | inr behind ↦
                get_or_past (xs ++ replicate m false) k false (grind (arith, places))
                ∙ sym (get_or_past xs k false high)
          ]
    ]

pub length-combined : (how : Bool → Bool → Bool) (xs ys : List Bool) → length (combined how xs ys) ≡ length xs
length-combined how xs ys =
    let size : length (fitted (length xs) ys) ≡ length xs = grind (arith, places) in
    length-zip2 how xs (fitted (length xs) ys) (sym size)

-- each bit of the first list, and the other's
pub bit-combined : (how : Bool → Bool → Bool) (xs ys : List Bool) (k : ℕ)
    → bit (combined how xs ys) k ≡ cond (ltb k (length xs)) (how (bit xs k) (bit ys k)) false
bit-combined how xs ys k =
    let n = length xs in
    let size : length (fitted n ys) ≡ n = grind (arith, places) in
    let whole = length-combined how xs ys in
    elim (cases_lt k n) [
      | inl low ↦
          let yes : ltb k n ≡ true = grind (arith, nat_tests) in
          get_or-zip2 how xs (fitted n ys) k false false false low (omega arith)
          ∙ ap (λ b. how (bit xs k) b) (get_or-take n (ys ++ replicate n false) k false low ∙ bit-padded ys n k)
          ∙ sym (ap (λ t. cond t (how (bit xs k) (bit ys k)) false) yes)
      | inr high ↦
          let no : ltb k n ≡ false = grind (arith, nat_tests) in
          get_or_past (combined how xs ys) k false (omega arith)
          ∙ sym (ap (λ t. cond t (how (bit xs k) (bit ys k)) false) no)
    ]

-- the first bits
pub bit-take : (xs : List Bool) (n k : ℕ) → bit (take n xs) k ≡ (bit xs k && ltb k n)
bit-take xs n k =
    elim (cases_lt k n) [
      | inl low ↦
          let yes : ltb k n ≡ true = grind (arith, nat_tests) in
          get_or-take n xs k false low ∙ sym (ap (λ b. bit xs k && b) yes ∙ and-true (bit xs k))
      | inr high ↦
          let no : ltb k n ≡ false = grind (arith, nat_tests) in
          get_or_past (take n xs) k false (grind (arith, places))
          ∙ sym (ap (λ b. bit xs k && b) no ∙ and-false (bit xs k))
    ]

-- moved down, with zeros behind
pub bit-moved : (xs : List Bool) (by m k : ℕ) → bit (drop by xs ++ replicate m false) k ≡ bit xs (k + by)
bit-moved xs by m k =
    let same : by + k ≡ k + by = omega arith in
    bit-padded (drop by xs) m k ∙ get_or-drop by xs k false ∙ ap (λ n. bit xs n) same

-- so many ones
pub bit-ones : (n k : ℕ) → bit (replicate n true) k ≡ ltb k n
bit-ones n k =
    elim (cases_lt k n) [
      | inl low ↦
          let yes : ltb k n ≡ true = grind (arith, nat_tests) in
          get_or-replicate n k true false low ∙ sym yes
      | inr high ↦
          let no : ltb k n ≡ false = grind (arith, nat_tests) in
          get_or_past (replicate n true) k false (grind (arith, places)) ∙ sym no
    ]

-- no ones
pub none-bit : (xs : List Bool) → list_any (λ b. b) xs ≡ false → (k : ℕ) → bit xs k ≡ false
none-bit [] none k = refl
none-bit (true ∷ xs) none k = absurd (true≢false none)
none-bit (false ∷ xs) none zero = refl
none-bit (false ∷ xs) none (suc k) = none-bit xs none k

pub bit-none : (xs : List Bool) → ((k : ℕ) → bit xs k ≡ false) → list_any (λ b. b) xs ≡ false
bit-none [] none = refl
bit-none (true ∷ xs) none = absurd (true≢false (none 0))
bit-none (false ∷ xs) none = bit-none xs (λ k. none (suc k))

-- the first bits as a part
pub first_part : (xs part : List Bool) (end : ℕ) → part ≡ piece xs 0 (min end (length xs)) → part ≡ take end xs
unfolding piece
first_part xs part end e =
    e ∙ elim (cases_lt end (length xs)) [
      | inl low ↦ ap (λ n. take n xs) (min-eq_left (omega arith))
      | inr high ↦ ap (λ n. take n xs) (min-eq_right high) ∙ take-length xs ∙ sym (take_all end xs high)
    ]
