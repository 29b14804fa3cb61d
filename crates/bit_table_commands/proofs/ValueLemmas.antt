-- Numbers that are cut off: neither what a field takes nor what is out of range changes.
use Rattle.std.proofs.Common.{◌≡◌, ℕ, ◌-◌, ◌^◌, ◌<◌, ◌≤◌, ◌&&◌, nat_lt, Bool, true, false, cond, ℤ, pos}
use Rattle.std.proofs.Common.{neg_ℤ, List, [], ◌∷◌, length, map, refl, ap, ◌∙◌, arith}
use Rattle.std.specs.Prelude.{int_lt, int_le, ◌<ℤ◌, ◌≤ℤ◌}
use Rattle.std.specs.Int.{int_min, int_max}
use Rattle.std.specs.List.{list_all}
use Rattle.std.proofs.lemmas.Int.{ints, clamps}
use Rattle.std.proofs.lemmas.Bool.Decides.{nat_tests}
use Rattle.std.proofs.lemmas.Nat.{pow_below}
use Rattle.std.proofs.Math.Nat.{pow-le-pow_right}
use Rattle.std.proofs.lemmas.List.{length-map}
use Rattle.bit_table_layout.specs.Fields.{FieldShape, is_field, takes, least, limit}
use Rattle.bit_table_layout.specs.Rows.{take_all}
use Rattle.bit_table_commands.specs.Commands.{cut_value, cut_place}

-- v, or m where it is greater, or - m where it is less
abbrev cut_at : ℕ → ℤ → ℤ
cut_at m v = int_max (neg_ℤ (pos m)) (int_min v (pos m))

cut_at-least : (m : ℕ) (low v : ℤ) → neg_ℤ (pos m) <ℤ low → low ≤ℤ pos m → int_le low (cut_at m v) ≡ int_le low v
cut_at-least m low v h k = grind (arith, ints, clamps)

cut_at-limit : (m : ℕ) (high v : ℤ) → neg_ℤ (pos m) <ℤ high → high ≤ℤ pos m
    → int_lt (cut_at m v) high ≡ int_lt v high
cut_at-limit m high v h k = grind (arith, ints, clamps)

cut_at-same : (m : ℕ) (v : ℤ) → neg_ℤ (pos m) ≤ℤ v → v ≤ℤ pos m → cut_at m v ≡ v
cut_at-same m v h k = omega (arith, ints, clamps)

pow_within : (w : ℕ) → w ≤ 64 → 2 ^ w ≤ 2 ^ 64
pow_within w h = pow-le-pow_right {n = 2} (omega arith) h

-- the numbers that so many bits hold lie between - 2 ^ 64 and 2 ^ 64
record IsNear (low high : ℤ) : Type 0 where
  low_over : neg_ℤ (pos (2 ^ 64)) <ℤ low
  low_under : low ≤ℤ pos (2 ^ 64)
  high_over : neg_ℤ (pos (2 ^ 64)) <ℤ high
  high_under : high ≤ℤ pos (2 ^ 64)

near-signed : (k : ℕ) → 2 ^ k < 2 ^ 64 → IsNear (neg_ℤ (pos (2 ^ k))) (pos (2 ^ k))
near-signed k h = record {
  low_over = omega (arith, ints);
  low_under = omega (arith, ints);
  high_over = omega (arith, ints);
  high_under = omega (arith, ints);
}

near-unsigned : (k : ℕ) → 2 ^ k ≤ 2 ^ 64 → IsNear (pos 0) (pos (2 ^ k))
near-unsigned k h = record {
  low_over = omega (arith, ints);
  low_under = omega (arith, ints);
  high_over = omega (arith, ints);
  high_under = omega (arith, ints);
}

near-width : (signed : Bool) (w : ℕ) → 1 ≤ w → w ≤ 64
    → IsNear (cond signed (neg_ℤ (pos (2 ^ (w - 1)))) (pos 0)) (cond signed (pos (2 ^ (w - 1))) (pos (2 ^ w)))
near-width true w a b = near-signed (w - 1) (pow_below (w - 1) 64 (omega arith))
near-width false w a b = near-unsigned w (pow_within w b)

near-field : (f : FieldShape) → is_field f ≡ true → IsNear (least f) (limit f)
near-field f h = near-width f.signed f.width (grind (arith, nat_tests)) (grind (arith, nat_tests))

-- a field takes a value cut off where it takes the value
pub takes-cut_value : (f : FieldShape) (v : ℤ) → is_field f ≡ true → takes f (cut_value v) ≡ takes f v
takes-cut_value f v h =
    let near = near-field f h in
    rw (cut_at-least (2 ^ 64) (least f) v near.low_over near.low_under)
    (ap (λ b. int_le (least f) v && b) (cut_at-limit (2 ^ 64) (limit f) v near.high_over near.high_under))

between : (m : ℕ) (low high v : ℤ) → neg_ℤ (pos m) <ℤ low → high ≤ℤ pos m → (int_le low v && int_lt v high) ≡ true
    → cut_at m v ≡ v
between m low high v a b h =
    let over : low ≤ℤ v = grind (arith, ints) in
    let under : v <ℤ high = grind (arith, ints) in
    cut_at-same m v (omega (arith, ints)) (omega (arith, ints))

-- a value that a field takes is not cut off
pub cut_value-taken : (f : FieldShape) (v : ℤ) → is_field f ≡ true → takes f v ≡ true → cut_value v ≡ v
cut_value-taken f v h t =
    let near = near-field f h in
    between (2 ^ 64) (least f) (limit f) v near.low_over near.high_under t

-- fields take values cut off where they take the values
pub take_all-cut_value : (fs : List FieldShape) (vs : List ℤ) → list_all is_field fs ≡ true
    → take_all fs (map cut_value vs) ≡ take_all fs vs
take_all-cut_value [] [] h = refl
take_all-cut_value [] (v ∷ vs) h = refl
take_all-cut_value (f ∷ fs) [] h = refl
take_all-cut_value (f ∷ fs) (v ∷ vs) h =
    let first : is_field f ≡ true = grind arith in
    let rest : list_all is_field fs ≡ true = grind arith in
    ap (λ b. b && take_all fs (map cut_value vs)) (takes-cut_value f v first)
    ∙ ap (λ b. takes f v && b) (take_all-cut_value fs vs rest)

-- values that fields take are not cut off
pub cut_value-all_taken : (fs : List FieldShape) (vs : List ℤ) → list_all is_field fs ≡ true → take_all fs vs ≡ true
    → map cut_value vs ≡ vs
cut_value-all_taken [] [] h t = refl
cut_value-all_taken [] (v ∷ vs) h t = absurd (cc)
cut_value-all_taken (f ∷ fs) [] h t = refl
cut_value-all_taken (f ∷ fs) (v ∷ vs) h t =
    let first : is_field f ≡ true = grind arith in
    let rest : list_all is_field fs ≡ true = grind arith in
    let one : takes f v ≡ true = grind arith in
    let more : take_all fs vs ≡ true = grind arith in
    ap (λ x. x ∷ map cut_value vs) (cut_value-taken f v first one)
    ∙ ap (λ xs. v ∷ xs) (cut_value-all_taken fs vs rest more)

-- as many values are kept
pub length-cut_value : (vs : List ℤ) → length (map cut_value vs) ≡ length vs
length-cut_value vs = length-map vs cut_value

-- a row number that is cut off is out of the same ranges
pub cut_place-below : (n p : ℕ) → n < 2 ^ 64 - 1 → nat_lt n (cut_place p) ≡ nat_lt n p
cut_place-below n p h = grind (arith, nat_tests)

-- a row number of a machine word is not cut off
pub cut_place-within : (p : ℕ) → p ≤ 2 ^ 64 - 1 → cut_place p ≡ p
cut_place-within p h = omega arith
