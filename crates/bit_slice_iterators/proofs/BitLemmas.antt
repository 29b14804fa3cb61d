-- The two ends of the bits that are left.
use Rattle.std.proofs.Common.{◌≡◌, ℕ, zero, suc, ◌-◌, ◌<◌, Bool, false, List, [], ◌∷◌, ◌++◌, length}
use Rattle.std.proofs.Common.{get_or, refl, sym, ap, ◌∙◌, arith}
use Rattle.bit_addressing_memory.specs.Memory.{piece}
use Rattle.bit_addressing_memory.proofs.MemoryLemmas.{piece_all, piece_join}

-- no bits are left
pub bits-none : (xs : List Bool) → length xs ≡ 0 → xs ≡ []
bits-none [] none = refl
bits-none (x ∷ xs) none = absurd (omega arith)

-- the bit at an index, as a piece
pub piece_one : (xs : List Bool) (i : ℕ) → i < length xs → piece xs i 1 ≡ get_or xs i false ∷ []
unfolding piece
piece_one [] i low = absurd (omega arith)
piece_one (x ∷ xs) zero low = refl
piece_one (x ∷ xs) (suc i) low = piece_one xs i (omega arith)

-- the first of them, and the others
pub bits-first : (xs : List Bool) (x : Bool) (n : ℕ) → 0 < length xs → n ≡ length xs - 1 → x ≡ get_or xs 0 false
    → xs ≡ x ∷ piece xs 1 n
bits-first xs x n some size is =
    let one : piece xs 0 1 ≡ x ∷ [] = piece_one xs 0 some ∙ ap (λ b. b ∷ []) (sym is) in
    sym (ap (λ ys. ys ++ piece xs 1 n) (sym one)
    ∙ piece_join xs 0 1 1 n (length xs) refl (omega arith) ∙ piece_all xs (length xs) refl)

-- the last of them, and the others
pub bits-last : (xs : List Bool) (x : Bool) (n : ℕ) → 0 < length xs → n ≡ length xs - 1 → x ≡ get_or xs n false
    → xs ≡ piece xs 0 n ++ x ∷ []
bits-last xs x n some size is =
    let one : piece xs n 1 ≡ x ∷ [] = piece_one xs n (omega arith) ∙ ap (λ b. b ∷ []) (sym is) in
    sym (ap (λ ys. piece xs 0 n ++ ys) (sym one)
    ∙ piece_join xs 0 n n 1 (length xs) (omega arith) (omega arith) ∙ piece_all xs (length xs) refl)

pub ruleset ends_of_bits = (bits-none, bits-first, bits-last)
