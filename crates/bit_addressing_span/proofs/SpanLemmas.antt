-- The words and the end of a span: by its length less one, as code computes them.
use Rattle.std.proofs.Common.{◌≡◌, ℕ, zero, suc, ◌+◌, ◌-◌, ◌*◌, ◌/◌, ◌%◌, ◌<◌, ◌≤◌, min, refl, sym, ap}
use Rattle.std.proofs.Common.{◌∙◌, inl, inr, arith}
use Rattle.std.proofs.lemmas.Bool.{cases_lt}
use Rattle.std.proofs.lemmas.Nat.{div-mul-add, mod-mul-add, div-add-mod', mod_below}
use Rattle.bit_addressing_memory.specs.Memory.{touched}
use Rattle.bit_addressing_span.specs.Span.{end_inside}

-- an index is in the first word
first_word : (b head : ℕ) → head < b → head / b ≡ 0
first_word b head low =
    let is : 0 * b + head ≡ head = omega arith in
    ap (λ q. q / b) (sym is) ∙ div-mul-add 0 b head low

-- no bits touch no word
pub touched-none : (b head len : ℕ) → len ≡ 0 → 0 ≡ touched b head len
touched-none b head len none = rw none refl

-- the words of some bits
pub touched-some : (b c head len : ℕ) → c ≡ b → head < b → 0 < len → (head + (len - 1)) / c + 1 ≡ touched b head len
touched-some b c head zero same low some = absurd (omega arith)
touched-some b c head (suc n) same low some =
    let less : suc n - 1 ≡ n = omega arith in
    rw (same, less) (omega (arith, first_word b head low))

-- the end of no bits
pub end_inside-none : (b head len : ℕ) → len ≡ 0 → head ≡ end_inside b head len
end_inside-none b head len none = rw none refl

-- the end of some bits
pub end_inside-some : (b c head len : ℕ) → c ≡ b → 0 < len → (head + (len - 1)) % c + 1 ≡ end_inside b head len
end_inside-some b c head zero same some = absurd (omega arith)
end_inside-some b c head (suc n) same some =
    let less : suc n - 1 ≡ n = omega arith in
    rw (same, less) refl

-- the words of some bits are those before the word of their end, and that one where they have bits of it
pub touched-whole : (b c head len : ℕ) → c ≡ b → head < b → 0 < len
    → (head + len) / c + min 1 ((head + len) % c) ≡ touched b head len
touched-whole b c head zero same low some = absurd (omega arith)
touched-whole b c head (suc n) same low some =
    let e : ℕ = head + n in
    let rest : e % b < b = mod_below e b (omega arith) in
    let first = first_word b head low in
    let is : e / b * b + e % b ≡ e = div-add-mod' e b in
    let next : head + suc n ≡ e + 1 = omega arith in
    rw (same, next) (elim (cases_lt (e % b + 1) b) [
      | inl inside ↦
          let place : e / b * b + (e % b + 1) ≡ e + 1 = omega arith in
          let row : (e + 1) / b ≡ e / b = ap (λ q. q / b) (sym place) ∙ div-mul-add (e / b) b (e % b + 1) inside in
          let column : (e + 1) % b ≡ e % b + 1 =
          ap (λ q. q % b) (sym place) ∙ mod-mul-add (e / b) b (e % b + 1) inside in
          omega arith
      | inr edge ↦
          let place : (e / b + 1) * b + 0 ≡ e + 1 = omega arith in
          let none : 0 < b = omega arith in
          let row : (e + 1) / b ≡ e / b + 1 = ap (λ q. q / b) (sym place) ∙ div-mul-add (e / b + 1) b 0 none in
          let column : (e + 1) % b ≡ 0 = ap (λ q. q % b) (sym place) ∙ mod-mul-add (e / b + 1) b 0 none in
          omega arith
    ])

-- the words of some bits hold them
pub touched-within : (b head len n : ℕ) → head < b → 0 < len → touched b head len ≤ n → head + len ≤ n * b
touched-within b head zero n low some fits = absurd (omega arith)
touched-within b head (suc k) n low some fits =
    let small : (head + k) / b < n = omega (arith, first_word b head low) in
    let rest : (head + k) % b < b = mod_below (head + k) b (omega arith) in
    let up : ((head + k) / b + 1) * b ≤ n * b = le_mul ((head + k) / b + 1) n b (omega arith) in
    omega (arith, div-add-mod' (head + k) b)
  where
    le_mul : (x y b : ℕ) → x ≤ y → x * b ≤ y * b
    le_mul x y b h = search (arith, Rattle.std.proofs.Math.Nat.mul-le-mul_right)

pub ruleset spans = (touched-none, touched-some, end_inside-none, end_inside-some)
