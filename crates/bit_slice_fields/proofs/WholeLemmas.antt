-- Whole numbers by their binary digits.
--
-- What half the numbers of so many digits is: `halves`. Fewer digits of more: `low_mod`. A number tells its digits and
-- its digits tell it: `low_pos`, `low_neg`, `fits_wrapped`, `same_wrapped`.
use Rattle.std.proofs.Common.{◌≡◌, ℕ, ◌+◌, ◌-◌, ◌*◌, ◌%◌, ◌^◌, ◌<◌, ◌≤◌, ◌∙◌}
use Rattle.std.proofs.Common.{suc, Bool, true, false, arith, pow-suc, lit<, sym, ap}
use Rattle.std.specs.Prelude.{ℤ, pos, negsuc}
use Rattle.std.proofs.Math.Nat.{mod-eq_of_lt}
use Rattle.std.proofs.Math.Pow.{pow_mono}
use Rattle.std.proofs.Common.{inl, inr, ◌/◌}
use Rattle.std.proofs.lemmas.Bool.{cases_lt}
use Rattle.std.proofs.Math.Pow.{pow_pos}
use Rattle.std.proofs.Math.Nat.{mul_assoc, mul_comm, mul-sub, mul-le-mul_right, suc-mul, mod-lt, mul-add-mod_self_right}
use Rattle.std.proofs.lemmas.Nat.{pow-add, div-add-mod', mod-mul-add}
use Rattle.std.proofs.lemmas.Bool.{lt-ltb, le-ltb}
use Rattle.std.specs.Prelude.{if◌then◌else◌}
use Rattle.bit_slice_fields.specs.Whole.{low_digits, FitsIn, with_digits, wrapped}

pub low_pos : (n d : ℕ) → d < 2 ^ n → low_digits n (pos d) ≡ d
low_pos n d h = mod-eq_of_lt h

pub low_neg : (n d half : ℕ) → 2 ^ n ≡ 2 * half → half ≤ d → d < 2 ^ n
    → low_digits n (negsuc (half - 1 - (d - half))) ≡ d
low_neg n d half twice le lt =
    let small : half - 1 - (d - half) < 2 ^ n = omega arith in
    let same : (half - 1 - (d - half)) % 2 ^ n ≡ half - 1 - (d - half) = mod-eq_of_lt small in
    rw same (omega arith)

pub half_twice : (n : ℕ) → 0 < n → 2 ^ n ≡ 2 * 2 ^ (n - 1)
half_twice n some = let e : n ≡ suc (n - 1) = omega arith in
    ap (λ k. 2 ^ k) e ∙ omega (arith, pow-suc 2 (n - 1))

pub half_room : (n m : ℕ) → n ≤ m → 2 ^ (n - 1) ≤ 2 ^ (m - 1)
half_room n m le = pow_mono {i = n - 1} {j = m - 1} (omega arith)

pub half_most : (n : ℕ) → n ≤ 128 → 2 ^ (n - 1) ≤ 2 ^ 127
half_most n le = pow_mono {i = n - 1} {j = 127} (omega arith)

pub one_digit : (k : ℕ) → k < 128 → 1 * 2 ^ k % 2 ^ 128 ≡ 2 ^ k
one_digit k lt =
    let h : 2 ^ k ≤ 2 ^ 127 = pow_mono {i = k} {j = 127} (omega arith) in
    let small : 1 * 2 ^ k < 2 ^ 128 = omega arith in
    let same : 1 * 2 ^ k % 2 ^ 128 ≡ 1 * 2 ^ k = mod-eq_of_lt small in
    same ∙ omega arith

-- two's complement at 128 bits
pub twos_pos : (k : ℕ) → k < 2 ^ 127 → k ≡ low_digits 128 (pos k)
twos_pos k lt = sym (low_pos 128 k (omega arith))

pub twos_neg : (k : ℕ) → k < 2 ^ 127 → 2 ^ 128 - suc k ≡ low_digits 128 (negsuc k)
twos_neg k lt =
    let small : k < 2 ^ 128 = omega arith in
    let same : k % 2 ^ 128 ≡ k = mod-eq_of_lt small in
    rw same (omega arith)

pub ruleset halves = (half_twice, half_room, half_most, one_digit)

split : (n : ℕ) → n ≤ 128 → 2 ^ 128 ≡ 2 ^ (128 - n) * 2 ^ n
split n le = let e : 128 ≡ (128 - n) + n = omega arith in ap (λ k. 2 ^ k) e ∙ pow-add 2 (128 - n) n

-- a remainder by a multiple, and then by the factor
parts : (n k : ℕ) → n ≤ 128 → 2 ^ 128 ≡ 2 ^ (128 - n) * 2 ^ n → (k % 2 ^ 128) % 2 ^ n ≡ k % 2 ^ n
parts n k le two =
    let y : ℕ = k % 2 ^ 128 in
    let a : ℕ = k / 2 ^ 128 in
    let at : a * 2 ^ 128 + y ≡ k = div-add-mod' k (2 ^ 128) in
    let times : a * 2 ^ 128 ≡ a * 2 ^ (128 - n) * 2 ^ n =
    ap (λ w. a * w) two ∙ sym (mul_assoc a (2 ^ (128 - n)) (2 ^ n)) in
    sym (ap (λ x. x % 2 ^ n) (sym at ∙ ap (λ w. w + y) times) ∙ mul-add-mod_self_right (a * 2 ^ (128 - n)) (2 ^ n) y)

below_quotient : (q m w : ℕ) → q * w < m * w → q < m
below_quotient q m w h = elim (cases_lt q m) [
  | inl low ↦ low
  | inr high ↦ let more : m * w ≤ q * w = mul-le-mul_right w high in absurd (omega arith)
]

minus_times : (m q w : ℕ) → (m - 1 - q) * w ≡ m * w - (q + 1) * w
minus_times m q w =
    let e : m - 1 - q ≡ m - (q + 1) = omega arith in
    ap (λ x. x * w) e ∙ mul_comm (m - (q + 1)) w ∙ mul-sub w m (q + 1)
    ∙ omega (arith, mul_comm w m, mul_comm w (q + 1))

-- the lowest n digits, of 128
pub low_mod : (n : ℕ) (z : ℤ) → n ≤ 128 → low_digits 128 z % 2 ^ n ≡ low_digits n z
low_mod n (pos k) le =
    let two : 2 ^ 128 ≡ 2 ^ (128 - n) * 2 ^ n = split n le in
    parts n k le two
low_mod n (negsuc k) le =
    let two : 2 ^ 128 ≡ 2 ^ (128 - n) * 2 ^ n = split n le in
    let y : ℕ = k % 2 ^ 128 in
    let lt : y < 2 ^ 128 = mod-lt k {m = 2 ^ 128} (lit< tt) in
    let q : ℕ = y / 2 ^ n in
    let r : ℕ = y % 2 ^ n in
    let some : 0 < 2 ^ n = pow_pos n in
    let at : q * 2 ^ n + r ≡ y = div-add-mod' y (2 ^ n) in
    let room : q < 2 ^ (128 - n) = below_quotient q (2 ^ (128 - n)) (2 ^ n) (omega arith) in
    let rest : (2 ^ (128 - n) - 1 - q) * 2 ^ n ≡ 2 ^ (128 - n) * 2 ^ n - (q + 1) * 2 ^ n =
    minus_times (2 ^ (128 - n)) q (2 ^ n) in
    let small : r < 2 ^ n = mod-lt y {m = 2 ^ n} some in
    let next : (q + 1) * 2 ^ n ≡ q * 2 ^ n + 2 ^ n = omega (arith, suc-mul q (2 ^ n)) in
    let fits : (q + 1) * 2 ^ n ≤ 2 ^ (128 - n) * 2 ^ n = mul-le-mul_right (2 ^ n) (omega arith) in
    let whole : 2 ^ 128 - 1 - y ≡ (2 ^ (128 - n) - 1 - q) * 2 ^ n + (2 ^ n - 1 - r) = omega arith in
    let same : (k % 2 ^ 128) % 2 ^ n ≡ k % 2 ^ n = parts n k le two in
    ap (λ x. x % 2 ^ n) whole ∙ mod-mul-add (2 ^ (128 - n) - 1 - q) (2 ^ n) (2 ^ n - 1 - r) (omega arith)
    ∙ ap (λ x. 2 ^ n - 1 - x) same

-- the lowest digits are so many
pub low_digits-lt : (n : ℕ) (z : ℤ) → low_digits n z < 2 ^ n
low_digits-lt n (pos k) = mod-lt k {m = 2 ^ n} (pow_pos n)
low_digits-lt n (negsuc k) =
    let some : 0 < 2 ^ n = pow_pos n in
    omega arith

-- a number of n digits is the one that they make
pub fits_wrapped : (signed : Bool) (n : ℕ) (z : ℤ) → 0 < n → FitsIn signed n z → wrapped signed n z ≡ z
fits_wrapped false n (pos k) some fits = ap pos (low_pos n k fits)
fits_wrapped false n (negsuc k) some fits = elim fits [ ]
fits_wrapped true n (pos k) some fits =
    let twice : 2 ^ n ≡ 2 * 2 ^ (n - 1) = half_twice n some in
    let small : k < 2 ^ n = omega arith in
    let same : k % 2 ^ n ≡ k = low_pos n k small in
    rw same (ap (λ t. if t then pos k else negsuc (2 ^ n - 1 - k)) (lt-ltb k (2 ^ (n - 1)) fits))
fits_wrapped true n (negsuc k) some fits =
    let twice : 2 ^ n ≡ 2 * 2 ^ (n - 1) = half_twice n some in
    let small : k < 2 ^ n = omega arith in
    let same : k % 2 ^ n ≡ k = mod-eq_of_lt small in
    let d : ℕ = 2 ^ n - 1 - k in
    let high : 2 ^ (n - 1) ≤ d = omega arith in
    let back : 2 ^ n - 1 - d ≡ k = omega arith in
    rw same (ap (λ t. if t then pos d else negsuc (2 ^ n - 1 - d)) (le-ltb d (2 ^ (n - 1)) high) ∙ ap negsuc back)

-- a number of n digits that has those of another is the other one cut to them
pub same_wrapped : (signed : Bool) (n : ℕ) (z other : ℤ) → 0 < n → FitsIn signed n z
    → low_digits n z ≡ low_digits n other → z ≡ wrapped signed n other
same_wrapped signed n z other some fits same =
    sym (fits_wrapped signed n z some fits) ∙ ap (with_digits signed n) same
