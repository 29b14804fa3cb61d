-- Words in two halves.
use Rattle.std.proofs.Common.{◌≡◌, ℕ, ◌+◌, ◌*◌, ◌/◌, ◌%◌, ◌<◌, List, ◌++◌, length, take, drop, ap, sym, ◌∙◌, arith}
use Rattle.std.proofs.Math.Nat.{mul-div_left, mul-mod_left}
use Rattle.bit_addressing_memory.specs.Memory.{Reading, memory}
use Rattle.bit_addressing_memory.proofs.MemoryLemmas.{memory-append}
use Rattle.bit_slice_access.specs.declared.halves.Halves.{Halves}
use Rattle.bit_slice_access.specs.Halves.{IsSplit, halves_words}

-- the border of so many whole words
pub border_of : (b size head half : ℕ) → 0 < b → size ≡ b → head ≡ 0
    → ((head + half * size) % b ≡ 0) × ((head + half * size) / b ≡ half)
border_of b size head half some is none =
    let whole : half * size ≡ half * b = ap (λ k. half * k) is in
    let at : head + half * size ≡ half * b = omega (arith, none, whole) in
    (ap (λ k. k % b) at ∙ mul-mod_left half b, ap (λ k. k / b) at ∙ mul-div_left half some)

-- words whose halves were exchanged
pub halves_swapped : {T : Type 0} (reading : Reading T) (words after : List T) (border half : ℕ) (h k : Halves T)
    → border ≡ half → IsSplit words border h
    → memory reading k.left.now ≡ memory reading h.right.now → memory reading k.right.now ≡ memory reading h.left.now
    → after ≡ halves_words k
    → memory reading after ≡ memory reading (drop half words) ++ memory reading (take half words)
halves_swapped reading words after border half h k here split left right is =
    ap (memory reading) is
    ∙ memory-append reading k.left.now k.right.now
    ∙ ap (λ xs. xs ++ memory reading k.right.now) (left ∙ ap (memory reading) (split.right ∙ ap (λ i. drop i words) here))
    ∙ ap (λ xs. memory reading (drop half words) ++ xs)
    (right ∙ ap (memory reading) (split.left ∙ ap (λ i. take i words) here))
