-- Steps of an odd number keep the indices of a word apart: what `lawful_by_steps` rests on.
use Rattle.std.proofs.Common.{pow-suc, ◌≡◌, ℕ, zero, suc, ◌+◌, ◌-◌, ◌*◌, ◌/◌, ◌%◌, ◌^◌, ◌<◌, ◌≤◌, sym, ◌∙◌, ap}
use Rattle.std.proofs.Common.{arith}
use Rattle.std.proofs.Math.Nat.{mul_assoc, mul_comm, mul-sub, mul-mod_left, mul-le-mul_left, suc-mul}
use Rattle.std.proofs.lemmas.Nat.{mul-mod, div-add-mod'}
use Rattle.bit_addressing_order.specs.BitRegister.{IsRegisterSize}

-- an odd number times d is even only where d is
even_factor : (step d m : ℕ) → step % 2 ≡ 1 → step * d ≡ m * 2 → d ≡ d / 2 * 2
even_factor step d m odd twice =
    let even : (step * d) % 2 ≡ 0 = ap (λ n. n % 2) twice ∙ mul-mod_left m 2 in
    let parity : (step * d) % 2 ≡ d % 2 = mul-mod step d 2 ∙ rw odd (omega arith) in
    omega arith

-- half of d in its place
half_factor : (step d m : ℕ) → step % 2 ≡ 1 → step * d ≡ m * 2 → step * (d / 2) ≡ m
half_factor step d m odd twice =
    let half = even_factor step d m odd twice in
    let doubled : step * (d / 2) * 2 ≡ step * (d / 2 * 2) = mul_assoc step (d / 2) 2 in
    let whole : step * (d / 2 * 2) ≡ step * d = ap (λ n. step * n) (sym half) in
    omega arith

next_power : (n k : ℕ) → n * 2 ^ suc k ≡ n * 2 ^ k * 2
next_power n k = ap (λ m. n * m) (pow-suc 2 k) ∙ sym (mul_assoc n (2 ^ k) 2)

-- a power of two that divides an odd number times d divides d
odd_factor : (k step d q : ℕ) → step % 2 ≡ 1 → step * d ≡ q * 2 ^ k → (e : ℕ) × (d ≡ e * 2 ^ k)
odd_factor zero step d q odd e = (d, omega arith)
odd_factor (suc k) step d q odd e =
    let twice : step * d ≡ q * 2 ^ k * 2 = e ∙ next_power q k in
    let found = odd_factor k step (d / 2) q odd (half_factor step d (q * 2 ^ k) odd twice) in
    let whole : d / 2 * 2 ≡ found.0 * 2 ^ k * 2 = ap (λ n. n * 2) found.1 in
    (found.0, even_factor step d (q * 2 ^ k) odd twice ∙ whole ∙ sym (next_power found.0 k))

-- and so does the number of bits of a word
odd_factor_of_word : (bits step d q : ℕ) → IsRegisterSize bits → step % 2 ≡ 1 → step * d ≡ q * bits
    → (e : ℕ) × (d ≡ e * bits)
odd_factor_of_word bits step d q size odd e =
    let found = odd_factor size.0 step d q odd (e ∙ ap (λ n. q * n) size.3) in
    (found.0, found.1 ∙ ap (λ n. found.0 * n) (sym size.3))

-- no whole number of words lies between two indices of a word
no_word_between : (bits i j e : ℕ) → i < j → j < bits → j - i ≡ e * bits → ⊥
no_word_between bits i j zero below within same = omega arith
no_word_between bits i j (suc e) below within same = omega (arith, suc-mul e bits)

-- two numbers with one remainder lie whole words apart
whole_words : (bits x y : ℕ) → x ≤ y → x % bits ≡ y % bits → (q : ℕ) × (y - x ≡ q * bits)
whole_words bits x y le same =
    let at_x : x / bits * bits + x % bits ≡ x = div-add-mod' x bits in
    let at_y : y / bits * bits + y % bits ≡ y = div-add-mod' y bits in
    let apart : (y / bits - x / bits) * bits ≡ y / bits * bits - x / bits * bits =
    mul_comm (y / bits - x / bits) bits ∙ mul-sub bits (y / bits) (x / bits)
    ∙ omega (arith, mul_comm bits (y / bits), mul_comm bits (x / bits)) in
    (y / bits - x / bits, omega arith)

-- steps of an odd number keep the indices of a word apart
pub steps_ordered : (bits step start i j : ℕ) → IsRegisterSize bits → step % 2 ≡ 1 → i < j → j < bits
    → (step * i + start) % bits ≡ (step * j + start) % bits → ⊥
steps_ordered bits step start i j size odd below within same =
    let more : step * i ≤ step * j = mul-le-mul_left step (omega arith) in
    let words = whole_words bits (step * i + start) (step * j + start) (omega arith) same in
    let apart : step * (j - i) ≡ words.0 * bits = mul-sub step j i ∙ omega (arith, words.1) in
    let found = odd_factor_of_word bits step (j - i) words.0 size odd apart in
    no_word_between bits i j found.0 below within found.1
