-- The laws of a writable window: it is a piece of its words' memory, lies in it, and begins where its place says.
use Rattle.std.proofs.Common.{◌≡◌, ℕ, ◌+◌, ◌*◌, ◌%◌, ◌<◌, ◌≤◌, List, length, sym, ap, ◌∙◌, arith}
use Rattle.std.proofs.lemmas.Nat.{mod-mul-add}
use Rattle.bit_addressing_memory.specs.Memory.{Reading, memory, piece}
use Rattle.bit_addressing_memory.proofs.WindowLemmas.{length-window}

-- the bits of a window are the piece of its own length
pub shown_window : {R : Type 0} (reading : Reading R) (words : List R) (place n : ℕ)
    → place + n ≤ length words * reading.bits
    → piece (memory reading words) place n
    ≡ piece (memory reading words) place (length (piece (memory reading words) place n))
shown_window reading words place n fits =
    ap (piece (memory reading words) place) (sym (length-window reading words place n fits))

-- they lie in the words
pub shown_fits : {R : Type 0} (reading : Reading R) (words : List R) (place n : ℕ)
    → place + n ≤ length words * reading.bits
    → place + length (piece (memory reading words) place n) ≤ length words * reading.bits
shown_fits reading words place n fits = omega (arith, length-window reading words place n fits)

-- a place in the first word is its own index there
pub first_start : (b place : ℕ) → place < b → place ≡ place % b
first_start b place low =
    let is : 0 * b + place ≡ place = omega arith in
    sym (ap (λ q. q % b) (sym is) ∙ mod-mul-add 0 b place low)

-- and so is the first place
pub front_start : (b : ℕ) → 8 ≤ b → 0 ≡ 0 % b
front_start b some = first_start b 0 (omega arith)
