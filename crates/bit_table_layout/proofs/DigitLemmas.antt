-- A whole number by its binary digits.
use Rattle.std.proofs.Common.{◌≡◌, ℕ, zero, suc, ◌+◌, ◌-◌, ◌*◌, ◌/◌, ◌%◌, ◌^◌, ◌<◌, ◌≤◌, Bool, true, false}
use Rattle.std.proofs.Common.{cond, List, [], ◌∷◌, ◌++◌, length, map, get_or, replicate}
use Rattle.std.proofs.Common.{reverse, take, drop, ℤ, pos, negsuc, ◌+ℤ◌}
use Rattle.std.proofs.Common.{neg_ℤ, ◌≤ℤ◌, ◌<ℤ◌, SFits, refl, sym, ap, ap₂, ◌∙◌, arith, shr-shr, pow_mono}
use Rattle.std.specs.Prelude.{◌==◌}
use Rattle.std.specs.List.{range_with_len}
use Rattle.std.specs.Int.{bit_at, bit_not, cast_unsigned, Width}
use mir.Syntax.{w8, w16, w32, w64, w128}
use mir.Val.{bits, hbits}
use Rattle.std.proofs.Math.Nat.{pow-suc}
use Rattle.std.proofs.lemmas.Int.{ints}
use Rattle.std.proofs.lemmas.List.{length-take-le, take_more, drop_more, reverse-append}
use Rattle.std.proofs.lemmas.Nat.Bits.{bit_at-suc, bit_at-zero, bit_at_not}
use Rattle.std.proofs.lemmas.Bool.Decides.{nat_tests}
use Rattle.bit_table_layout.specs.Digits.{has_digit, binary}

-- the n lowest digits of v, the lowest first
abbrev pub digits : ℤ → ℕ → List Bool
digits v n = map (has_digit v) (range_with_len 0 n)

map_shifted : {X : Type 0} (f g : ℕ → X) → ((j : ℕ) → f (j + 1) ≡ g j) → (a n : ℕ)
    → map f (range_with_len (a + 1) n) ≡ map g (range_with_len a n)
map_shifted f g same a zero = refl
map_shifted f g same a (suc n) = ap₂ (λ x xs. x ∷ xs) (same a) (map_shifted f g same (a + 1) n)

halved : (a j : ℕ) → a / 2 ^ (j + 1) ≡ a / 2 / 2 ^ j
halved a j =
    let e : 1 + j ≡ j + 1 = omega arith in
    sym (shr-shr a 1 j ∙ ap (λ k. a / 2 ^ k) e)

digits-pos : (a n : ℕ) → digits (pos a) (suc n) ≡ (a % 2 == 1) ∷ digits (pos (a / 2)) n
digits-pos a n =
    let whole : a / 1 ≡ a = omega arith in
    ap₂ (λ x xs. (x % 2 == 1) ∷ xs) whole
    (map_shifted (has_digit (pos a)) (has_digit (pos (a / 2))) (λ j. ap (λ q. q % 2 == 1) (halved a j)) 0 n)

digits-negsuc : (a n : ℕ) → digits (negsuc a) (suc n) ≡ (1 - a % 2 == 1) ∷ digits (negsuc (a / 2)) n
digits-negsuc a n =
    let whole : a / 1 ≡ a = omega arith in
    ap₂ (λ x xs. (1 - x % 2 == 1) ∷ xs) whole
    (map_shifted (has_digit (negsuc a)) (has_digit (negsuc (a / 2)))
    (λ j. ap (λ q. 1 - q % 2 == 1) (halved a j)) 0 n)

as_number : (m : ℕ) → m < 2 → cond (m == 1) 1 0 ≡ m
as_number m h = grind (arith, nat_tests)

-- the digits of a number below 2 ^ n spell it
pub binary-digits-pos : (n a : ℕ) → a < 2 ^ n → binary (digits (pos a) n) ≡ a
binary-digits-pos zero a h = omega arith
binary-digits-pos (suc n) a h =
    let twice = pow-suc 2 n in
    let rest = binary-digits-pos n (a / 2) (omega arith) in
    let lowest = as_number (a % 2) (omega arith) in
    ap binary (digits-pos a n) ∙ omega arith

-- the digits of a negative number from - 2 ^ n spell what it lacks to 2 ^ n
pub binary-digits-negsuc : (n a : ℕ) → a < 2 ^ n → binary (digits (negsuc a) n) + suc a ≡ 2 ^ n
binary-digits-negsuc zero a h = omega arith
binary-digits-negsuc (suc n) a h =
    let twice = pow-suc 2 n in
    let rest = binary-digits-negsuc n (a / 2) (omega arith) in
    let lowest = as_number (1 - a % 2) (omega arith) in
    ap (λ bs. binary bs + suc a) (digits-negsuc a n) ∙ omega arith

-- bits are below 2 to their number
pub binary-lt : (bs : List Bool) → binary bs < 2 ^ length bs
binary-lt [] = omega arith
binary-lt (true ∷ bs) = omega (arith, binary-lt bs, pow-suc 2 (length bs))
binary-lt (false ∷ bs) = omega (arith, binary-lt bs, pow-suc 2 (length bs))

-- the digits of the number that bits spell are the bits
pub digits-binary : (bs : List Bool) → digits (pos (binary bs)) (length bs) ≡ bs
digits-binary [] = refl
digits-binary (true ∷ bs) =
    let x = binary bs in
    let one : (1 + 2 * x) % 2 ≡ 1 = omega arith in
    let rest : (1 + 2 * x) / 2 ≡ x = omega arith in
    digits-pos (1 + 2 * x) (length bs) ∙ ap₂ (λ p q. (p == 1) ∷ digits (pos q) (length bs)) one rest
    ∙ ap (λ cs. true ∷ cs) (digits-binary bs)
digits-binary (false ∷ bs) =
    let x = binary bs in
    let one : (0 + 2 * x) % 2 ≡ 0 = omega arith in
    let rest : (0 + 2 * x) / 2 ≡ x = omega arith in
    digits-pos (0 + 2 * x) (length bs) ∙ ap₂ (λ p q. (p == 1) ∷ digits (pos q) (length bs)) one rest
    ∙ ap (λ cs. false ∷ cs) (digits-binary bs)

-- the digits of a negative number are the bits that spell what it lacks to 2 to their number
pub digits-lacking : (bs : List Bool) (a : ℕ) → binary bs + suc a ≡ 2 ^ length bs
    → digits (negsuc a) (length bs) ≡ bs
digits-lacking [] a h = refl
digits-lacking (true ∷ bs) a h =
    let twice = pow-suc 2 (length bs) in
    let one : 1 - a % 2 ≡ 1 = omega arith in
    let rest : binary bs + suc (a / 2) ≡ 2 ^ length bs = omega arith in
    digits-negsuc a (length bs) ∙ ap (λ p. (p == 1) ∷ digits (negsuc (a / 2)) (length bs)) one
    ∙ ap (λ cs. true ∷ cs) (digits-lacking bs (a / 2) rest)
digits-lacking (false ∷ bs) a h =
    let twice = pow-suc 2 (length bs) in
    let one : 1 - a % 2 ≡ 0 = omega arith in
    let rest : binary bs + suc (a / 2) ≡ 2 ^ length bs = omega arith in
    digits-negsuc a (length bs) ∙ ap (λ p. (p == 1) ∷ digits (negsuc (a / 2)) (length bs)) one
    ∙ ap (λ cs. false ∷ cs) (digits-lacking bs (a / 2) rest)

-- two lists of so many bits that spell one number are equal
pub binary-same : (xs ys : List Bool) → length xs ≡ length ys → binary xs ≡ binary ys → xs ≡ ys
binary-same xs ys e same = sym (digits-binary xs) ∙ ap₂ (λ a n. digits (pos a) n) same e ∙ digits-binary ys

-- ---- whole numbers by their digits

-- a number from 0 to below 2 ^ n is what its digits spell
pub binary-digits : (n : ℕ) (v : ℤ) → pos 0 ≤ℤ v → v <ℤ pos (2 ^ n) → pos (binary (digits v n)) ≡ v
binary-digits n (pos a) low high = ap pos (binary-digits-pos n a (omega (arith, ints)))
binary-digits n (negsuc a) low high = absurd (omega (arith, ints))

-- the digits of a negative number from - 2 ^ n spell 2 ^ n more
pub binary-digits-negative : (n : ℕ) (v : ℤ) → neg_ℤ (pos (2 ^ n)) ≤ℤ v → v <ℤ pos 0
    → pos (binary (digits v n)) ≡ pos (2 ^ n) +ℤ v
binary-digits-negative n (pos a) low high = absurd (omega (arith, ints))
binary-digits-negative n (negsuc a) low high =
    let lacks = binary-digits-negsuc n a (omega (arith, ints)) in
    omega (arith, ints)

-- ---- numbers that are built bit by bit

pub binary-append : (xs ys : List Bool) → binary (xs ++ ys) ≡ binary xs + 2 ^ length xs * binary ys
binary-append [] ys = omega arith
binary-append (x ∷ xs) ys =
    let rest = binary-append xs ys in
    let twice = pow-suc 2 (length xs) in
    let product : 2 ^ suc (length xs) * binary ys ≡ 2 * (2 ^ length xs * binary ys) =
    ap (λ p. p * binary ys) (pow-suc 2 (length xs)) ∙ omega arith in
    omega arith

-- one bit more at the end weighs 2 to the number of bits before it
pub binary_push : (xs : List Bool) (b : Bool) → binary (xs ++ b ∷ []) ≡ binary xs + 2 ^ length xs * cond b 1 0
binary_push xs b = binary-append xs (b ∷ []) ∙ omega arith

-- a loop that takes the bits from the lowest on
pub binary-take_more : (xs : List Bool) (i : ℕ) → i < length xs
    → binary (take (i + 1) xs) ≡ binary (take i xs) + 2 ^ i * cond (get_or xs i false) 1 0
binary-take_more xs i h =
    ap binary (take_more xs i false h) ∙ binary_push (take i xs) (get_or xs i false)
    ∙ ap (λ n. binary (take i xs) + 2 ^ n * cond (get_or xs i false) 1 0) (length-take-le i xs (omega arith))

-- a loop that takes the bits from the highest on
pub binary-drop_more : (xs : List Bool) (i : ℕ) → i < length xs
    → binary (drop i xs) ≡ cond (get_or xs i false) 1 0 + 2 * binary (drop (i + 1) xs)
binary-drop_more xs i h = ap binary (drop_more xs i false h)

-- the same, where the highest bit stands first
pub binary-reverse_push : (xs : List Bool) (b : Bool)
    → binary (reverse (xs ++ b ∷ [])) ≡ cond b 1 0 + 2 * binary (reverse xs)
binary-reverse_push xs b = ap binary (reverse-append xs (b ∷ []))

pub binary-reverse-take_more : (xs : List Bool) (i : ℕ) → i < length xs
    → binary (reverse (take (i + 1) xs)) ≡ cond (get_or xs i false) 1 0 + 2 * binary (reverse (take i xs))
binary-reverse-take_more xs i h =
    ap (λ bs. binary (reverse bs)) (take_more xs i false h) ∙ binary-reverse_push (take i xs) (get_or xs i false)

-- zeros at the end weigh nothing, and zeros at the front double each
pub binary-replicate : (n : ℕ) → binary (replicate n false) ≡ 0
binary-replicate zero = refl
binary-replicate (suc n) = omega (arith, binary-replicate n)

pub binary-zeros_after : (xs : List Bool) (n : ℕ) → binary (xs ++ replicate n false) ≡ binary xs
binary-zeros_after xs n =
    binary-append xs (replicate n false) ∙ ap (λ m. binary xs + 2 ^ length xs * m) (binary-replicate n) ∙ omega arith

pub binary-zeros_before : (n : ℕ) (xs : List Bool) → binary (replicate n false ++ xs) ≡ 2 ^ n * binary xs
binary-zeros_before zero xs = omega arith
binary-zeros_before (suc n) xs =
    let rest = binary-zeros_before n xs in
    let product : 2 ^ suc n * binary xs ≡ 2 * (2 ^ n * binary xs) =
    ap (λ p. p * binary xs) (pow-suc 2 n) ∙ omega arith in
    omega arith

-- ---- the bits of the number that bits spell

pub bit_at-binary : (xs : List Bool) (k : ℕ) → bit_at (binary xs) k ≡ cond (get_or xs k false) 1 0
bit_at-binary [] k = bit_at-zero k
bit_at-binary (true ∷ xs) zero = omega arith
bit_at-binary (false ∷ xs) zero = omega arith
bit_at-binary (true ∷ xs) (suc k) =
    let rest : (1 + 2 * binary xs) / 2 ≡ binary xs = omega arith in
    bit_at-suc (1 + 2 * binary xs) k ∙ ap (λ n. bit_at n k) rest ∙ bit_at-binary xs k
bit_at-binary (false ∷ xs) (suc k) =
    let rest : (0 + 2 * binary xs) / 2 ≡ binary xs = omega arith in
    bit_at-suc (0 + 2 * binary xs) k ∙ ap (λ n. bit_at n k) rest ∙ bit_at-binary xs k

pub has_digit-binary : (xs : List Bool) (k : ℕ) → has_digit (pos (binary xs)) k ≡ get_or xs k false
has_digit-binary xs k = ap (λ n. n == 1) (bit_at-binary xs k) ∙ by (get_or xs k false)
  where
    by : (b : Bool) → (cond b 1 0 == 1) ≡ b
    by true = refl
    by false = refl

hbits_le : (w : Width) → hbits w ≤ bits w
hbits_le w8 = omega arith
hbits_le w16 = omega arith
hbits_le w32 = omega arith
hbits_le w64 = omega arith
hbits_le w128 = omega arith

-- the digits of a number that fits a signed type are the bits of its cast to the unsigned one
pub has_digit-cast_unsigned : (w : Width) (v : ℤ) (k : ℕ) → SFits w v → k < bits w
    → has_digit v k ≡ (bit_at (cast_unsigned w v) k == 1)
has_digit-cast_unsigned w (pos a) k fits h = refl
has_digit-cast_unsigned w (negsuc a) k fits h =
    let small : a < 2 ^ bits w = omega (arith, fits.sfits, pow_mono (hbits_le w)) in
    let is : 2 ^ bits w - suc a ≡ bit_not w a = omega arith in
    ap (λ n. n == 1) (sym (ap (λ n. bit_at n k) is ∙ bit_at_not w a k small h))
