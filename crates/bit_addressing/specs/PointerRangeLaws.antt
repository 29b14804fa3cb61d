-- What the type of a range of pointers rests on: its two ends, from its start and its length.
use Rattle.std.proofs.Common.{◌≡◌, ℕ, ◌+◌, ◌-◌, ◌*◌, ◌<◌}
use Rattle.std.proofs.Common.{refl, ap, ◌∙◌, arith}
use Rattle.std.proofs.Math.IntN.{ℤ, pos, negsuc, ◌+ℤ◌, ◌*ℤ◌, negsuc-*ℤ-pos}
use Rattle.std.proofs.lemmas.Int.{ints}
use Rattle.std.proofs.lemmas.Nat.{div-mul-add, mod-mul-add}
use lib.Signed.{◌≤ℤ◌}
use Rattle.bit_addressing.specs.Pointer.{Pointer, whole_place}
use Rattle.bit_addressing.specs.PointerRange.{bits_between, end_of, pointer_at}

-- a pointer is the one at its place
pub pointer_at_place : (b : ℕ) (w : ℤ) (i : ℕ) → i < b
    → pointer_at b ((w *ℤ pos b) +ℤ pos i) ≡ record { word = w; bit = i }
pointer_at_place b (pos n) i low = rw (div-mul-add n b i low, mod-mul-add n b i low) refl
pointer_at_place b (negsuc n) i low =
    let times = negsuc-*ℤ-pos n b in
    let back : (negsuc n *ℤ pos b) +ℤ pos i ≡ negsuc (n * b + (b - 1 - i)) = omega (arith, ints) in
    let rest : b - 1 - i < b = omega arith in
    let mirrored : b - 1 - (b - 1 - i) ≡ i = omega arith in
    rw (back, div-mul-add n b (b - 1 - i) rest, mod-mul-add n b (b - 1 - i) rest, mirrored) refl

-- a range between two pointers ends before the second
pub end_is : (b : ℕ) (from to : Pointer) → to.bit < b → whole_place b from ≤ℤ whole_place b to
    → end_of b (record { start = from; len = bits_between b from to }) ≡ to
end_is b from to low order =
    let place : whole_place b from +ℤ pos (bits_between b from to) ≡ whole_place b to = omega (arith, ints) in
    ap (pointer_at b) place ∙ pointer_at_place b to.word to.bit low
