-- A window with bits touches a word: `some_word`.
use Rattle.std.proofs.Common.{◌≡◌, ℕ, zero, suc, ◌+◌, ◌-◌, ◌*◌, ◌/◌, ◌<◌, ◌≤◌, List, length, arith}
use Rattle.std.proofs.Math.Nat.{div-lt_iff_lt-mul, lt-div-mul-add}
use Rattle.bit_addressing_memory.specs.Memory.{piece, touched}
use Rattle.bit_addressing_memory.proofs.MemoryLemmas.{length-piece}
use Rattle.bit_slice_views_mut.proofs.SweepLemmas.{touched_within}

some_touched : (b place n : ℕ) → 0 < b → 0 < n → 1 ≤ touched b place n
some_touched b place zero positive some = absurd (omega arith)
some_touched b place (suc n) positive some =
    let last : place + n < (place + n) / b * b + b = lt-div-mul-add positive in
    let room : place < ((place + n) / b + 1) * b = omega (arith, last) in
    let order : place / b < (place + n) / b + 1 = (div-lt_iff_lt-mul positive).1 room in
    omega (arith, order)

pub some_word : {R : Type 0} (words : List R) (b place n : ℕ) → 0 < b → 0 < n → place + n ≤ length words * b
    → 1 ≤ length (piece words (place / b) (touched b place n))
some_word words b place n positive some fits =
    omega (
      arith,
      length-piece words (place / b) (touched b place n) (touched_within b place n (length words) positive fits),
      some_touched b place n positive some,
    )
