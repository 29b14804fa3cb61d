-- Bits set in turn, each in a piece that is written back.
use Rattle.std.proofs.Common.{◌≡◌, ℕ, zero, suc, ◌+◌, ◌*◌, ◌<◌, ◌≤◌, Bool, true, List, length, set, length-set, refl}
use Rattle.std.proofs.Common.{ap, ◌∙◌, arith}
use Rattle.bit_addressing_memory.specs.Memory.{piece, with_piece}
use Rattle.bit_addressing_memory.proofs.MemoryLemmas.{length-piece}
use Rattle.bit_slice_access.proofs.PartLemmas.{piece_set, piece_same}
use Rattle.bit_slice_tests.specs.Marked.{marked}

-- there are as many bits
pub length-marked : (bits : List Bool) (k m : ℕ) → length (marked bits k m) ≡ length bits
length-marked bits k zero = refl
length-marked bits k (suc m) = length-set (marked bits k m) (m * k) true ∙ length-marked bits k m

-- the first bit of a piece set, and the piece written back
pub marked_piece : (xs : List Bool) (from n : ℕ) → from + n ≤ length xs → 0 < n
    → with_piece xs from (set (piece xs from n) 0 true) ≡ set xs from true
marked_piece xs from n fits some =
    let size : length (piece xs from n) ≡ n = length-piece xs from n fits in
    let here : from + 0 ≡ from = omega arith in
    piece_set xs (piece xs from n) from 0 true (omega arith) (omega arith)
    ∙ ap (λ i. set (with_piece xs from (piece xs from n)) i true) here
    ∙ ap (λ ys. set ys from true) (piece_same xs from n fits)

-- one more of them
pub marked_next : (bits xs : List Bool) (k m from n : ℕ) → xs ≡ marked bits k m → from ≡ m * k
    → from + n ≤ length bits → 0 < n
    → with_piece xs from (set (piece xs from n) 0 true) ≡ marked bits k (m + 1)
marked_next bits xs k m from n is at fits some =
    let next : m + 1 ≡ suc m = omega arith in
    let room : from + n ≤ length xs = omega (arith, ap length is, length-marked bits k m) in
    marked_piece xs from n room some ∙ rw (is, at, next) refl
