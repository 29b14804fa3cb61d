-- The pointers that a range gives, from both ends, and where its own pointers stay.
use Rattle.std.proofs.Common.{◌≡◌, ℕ, zero, suc, ◌+◌, ◌*◌, ◌^◌, ◌<◌, ◌≤◌, []}
use Rattle.std.proofs.Common.{◌∷◌, ◌++◌, length, refl, sym, ap, ◌∙◌, arith}
use Rattle.std.proofs.Math.IntN.{ℤ, pos, negsuc, ◌+ℤ◌, ◌*ℤ◌, negsuc-*ℤ-pos}
use Rattle.std.proofs.Math.Nat.{mul-le-mul_right}
use Rattle.std.proofs.lemmas.Int.{ints}
use Rattle.std.specs.Int.{w64}
use Rattle.std.specs.Int.RustNames.{FitsSigned}
use Rattle.bit_addressing.specs.Pointer.{Pointer, StaysIn}
use Rattle.bit_addressing.specs.PointerRange.{PointerRange, IsRange, bits_between, end_of, pointer_at, pointers}
use Rattle.bit_addressing.specs.PointerRangeLaws.{end_is, pointer_at_place}

-- as a range sees it
pub end_seen : (b : ℕ) (from to : Pointer) (range : PointerRange) → IsRange b from to
    → record { start = from; len = bits_between b from to } ≡ range → to ≡ end_of b range
end_seen b from to range is seen = sym (end_is b from to is.end_bit is.order) ∙ ap (end_of b) seen

-- none are left of no bits
pub pointers-none : (b : ℕ) (z : ℤ) (n : ℕ) → n ≡ 0 → pointers b z n ≡ []
unfolding pointers
pointers-none b z n e = rw e refl

-- the first one
pub pointers-first : (b : ℕ) (w : ℤ) (i : ℕ) (next : ℤ) (n m : ℕ) → i < b → n ≡ m + 1
    → next ≡ ((w *ℤ pos b) +ℤ pos i) +ℤ pos 1
    → pointers b ((w *ℤ pos b) +ℤ pos i) n ≡ record { word = w; bit = i } ∷ pointers b next m
unfolding pointers
pointers-first b w i next n m low e is =
    let more : n ≡ suc m = omega arith in
    rw (more, is) (ap (λ p. p ∷ pointers b (((w *ℤ pos b) +ℤ pos i) +ℤ pos 1) m) (pointer_at_place b w i low))

pointers-more : (b : ℕ) (z : ℤ) (n : ℕ) → pointers b z (suc n) ≡ pointers b z n ++ pointer_at b (z +ℤ pos n) ∷ []
unfolding pointers
pointers-more b z zero =
    let same : z +ℤ pos 0 ≡ z = omega (arith, ints) in
    rw same refl
pointers-more b z (suc n) =
    let next : (z +ℤ pos 1) +ℤ pos n ≡ z +ℤ pos (suc n) = omega (arith, ints) in
    ap (λ rest. pointer_at b z ∷ rest) (pointers-more b (z +ℤ pos 1) n
    ∙ ap (λ y. pointers b (z +ℤ pos 1) n ++ pointer_at b y ∷ []) next)

-- the last one
pub pointers-last : (b : ℕ) (z : ℤ) (n m : ℕ) (w : ℤ) (i : ℕ) → i < b → n ≡ m + 1
    → (w *ℤ pos b) +ℤ pos i ≡ z +ℤ pos m
    → pointers b z n ≡ pointers b z m ++ record { word = w; bit = i } ∷ []
pointers-last b z n m w i low e is =
    let more : n ≡ suc m = omega arith in
    rw more (pointers-more b z m ∙ ap (λ p. pointers b z m ++ p ∷ [])
    (ap (pointer_at b) (sym is) ∙ pointer_at_place b w i low))

-- how many there are
pub length-pointers : (b : ℕ) (z : ℤ) (n : ℕ) → length (pointers b z n) ≡ n
unfolding pointers
length-pointers b z zero = refl
length-pointers b z (suc n) = ap suc (length-pointers b (z +ℤ pos 1) n)

-- a pointer's place stays in
pub stays_here : (b : ℕ) (w : ℤ) (i : ℕ) → i < b → FitsSigned w64 w → StaysIn b ((w *ℤ pos b) +ℤ pos i)
stays_here b (pos n) i low fits =
    let small : n < 2 ^ 63 = fits.sfits in
    let next : n + 1 ≤ 2 ^ 63 = omega arith in
    let most : (n + 1) * b ≤ 2 ^ 63 * b = mul-le-mul_right b next in
    record { from = omega (arith, ints); upto = omega (arith, ints) }
stays_here b (negsuc n) i low fits =
    let small : n < 2 ^ 63 = fits.sfits in
    let next : suc n ≤ 2 ^ 63 = omega arith in
    let most : suc n * b ≤ 2 ^ 63 * b = mul-le-mul_right b next in
    let times = negsuc-*ℤ-pos n b in
    record { from = omega (arith, ints); upto = omega (arith, ints) }

pub ruleset ends_of_pointers = (pointers-none, length-pointers)
