-- The bits that are left of a box: a piece of its words' memory, which gets shorter at its ends.
use Rattle.std.proofs.Common.{◌≡◌, ℕ, ◌+◌, ◌-◌, ◌*◌, ◌<◌, ◌≤◌, [], ◌∷◌, ◌++◌, ◌∙◌}
use Rattle.std.proofs.Common.{Bool, false, List, length, get_or, ap, arith}
use Rattle.bit_addressing_memory.specs.Memory.{Reading, memory, piece}
use Rattle.bit_addressing_memory.proofs.MemoryLemmas.{piece_none, piece_piece}
use Rattle.bit_addressing_memory.proofs.WindowLemmas.{length-window}
use Rattle.bit_slice_iterators.proofs.BitLemmas.{bits-first, bits-last}

-- none is left
pub left_none : {R : Type 0} (reading : Reading R) (words : List R) (p n : ℕ) → n ≡ 0
    → piece (memory reading words) p n ≡ []
left_none reading words p n none = piece_none (memory reading words) p n none

-- the first of them, and the others
pub left_first : {R : Type 0} (reading : Reading R) (words : List R) (p n : ℕ) (x : Bool)
    → p + n ≤ length words * reading.bits → 0 < n → x ≡ get_or (piece (memory reading words) p n) 0 false
    → piece (memory reading words) p n ≡ x ∷ piece (memory reading words) (p + 1) (n - 1)
left_first reading words p n x fits some is =
    let xs : List Bool = memory reading words in
    let size : length (piece xs p n) ≡ n = length-window reading words p n fits in
    bits-first (piece xs p n) x (n - 1) (omega (arith, size)) (omega (arith, size)) is
    ∙ ap (λ ys. x ∷ ys) (piece_piece xs p n 1 (n - 1) (omega arith))

-- the last of them, and the others
pub left_last : {R : Type 0} (reading : Reading R) (words : List R) (p n : ℕ) (x : Bool)
    → p + n ≤ length words * reading.bits → 0 < n → x ≡ get_or (piece (memory reading words) p n) (n - 1) false
    → piece (memory reading words) p n ≡ piece (memory reading words) p (n - 1) ++ x ∷ []
left_last reading words p n x fits some is =
    let xs : List Bool = memory reading words in
    let size : length (piece xs p n) ≡ n = length-window reading words p n fits in
    let here : p + 0 ≡ p = omega arith in
    bits-last (piece xs p n) x (n - 1) (omega (arith, size)) (omega (arith, size)) is
    ∙ ap (λ ys. ys ++ x ∷ []) (piece_piece xs p n 0 (n - 1) (omega arith) ∙ ap (λ q. piece xs q (n - 1)) here)

pub ruleset left = (left_none, left_first, left_last)
