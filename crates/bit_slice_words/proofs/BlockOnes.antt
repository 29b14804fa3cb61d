-- The ones of a block of 64 bits are the true bits of its stretch: `chunk_ones`; of one more, `ones_and_more`, and `ones_fit`.
use Rattle.bit_addressing_memory.proofs.Common.{◌≡◌, ℕ, ◌+◌, ◌-◌, ◌*◌, ◌^◌, ◌<◌, ◌≤◌, Bool, false, List, length, refl}
use Rattle.bit_addressing_memory.proofs.Common.{sym, ap, ◌∙◌, arith, Reading, entry, memory, piece}
use Rattle.std.specs.Int.RustNames.{count_ones}
use Rattle.std.proofs.lemmas.List.{ext_get_or}
use Rattle.bit_addressing_memory.specs.Bits.{bits_in_order}
use Rattle.bit_addressing_memory.specs.OrderLaws.{lsb0_lawful, msb0_lawful}
use Rattle.bit_addressing_memory.specs.Straight.{straight}
use Rattle.bit_addressing_memory.specs.declared.direction.Direction.{Direction}
use Rattle.bit_addressing_memory.specs.declared.direction.Direction.TheVariants.{Ascending, Descending}
use Rattle.bit_addressing_memory.proofs.MemoryLemmas.{length-memory, length-piece, get_or-piece, piece_all, entry_memory}
use Rattle.bit_addressing_memory.proofs.OrderCallerLemmas.{get_or-bits_in_order, length-bits_in_order}
use Rattle.bit_slice_paths.specs.Chunk.{IsChunk}
use Rattle.bit_slice_words.proofs.OnesLemmas.{trues, trues_none, ones_in_order}
use Rattle.bit_slice_words.proofs.CountLemmas.{trues_join, trues_short}

-- the ones of a number of 64 digits, in either direction
ones_straight : (direction : Direction) (chunk : ℕ) → chunk < 2 ^ 64
    → count_ones chunk ≡ trues (bits_in_order (straight 64 direction) 64 chunk)
ones_straight Ascending chunk fits = ones_in_order 64 (λ i. i) _ _ chunk (lsb0_lawful 64) fits
ones_straight Descending chunk fits = ones_in_order 64 (λ i. 64 - 1 - i) _ _ chunk (msb0_lawful 64) fits

zero_plus : (k : ℕ) → 0 + k ≡ k
zero_plus k = omega arith

pub chunk_ones : {R : Type 0} (reading : Reading R) (words : List R) (place n : ℕ) (direction : Direction)
    (chunk ones : ℕ) → 0 < reading.bits → n ≤ 64 → place + n ≤ length words * reading.bits → chunk < 2 ^ 64
    → ones ≡ count_ones chunk → IsChunk reading words place n direction chunk
    → ones ≡ trues (piece (memory reading words) place n)
chunk_ones reading words place n direction chunk ones some few within fits now is =
    let xs : List Bool = bits_in_order (straight 64 direction) 64 chunk in
    let size : length xs ≡ 64 = length-bits_in_order (straight 64 direction) 64 chunk in
    let room : place + n ≤ length (memory reading words) = omega (arith, length-memory reading words) in
    let all : trues (piece xs 0 64) ≡ trues xs = ap trues (piece_all xs 64 size) in
    let parts : trues (piece xs 0 64) ≡ trues (piece xs 0 n) + trues (piece xs n (64 - n)) =
    trues_join xs 0 n n (64 - n) 64 (omega arith) (omega arith) in
    let rest : trues (piece xs n (64 - n)) ≡ 0 =
    trues_none (piece xs n (64 - n)) (λ k low.
    let small : k < 64 - n = omega (arith, length-piece xs n (64 - n) (omega arith)) in
    get_or-piece xs n (64 - n) k false small
    ∙ get_or-bits_in_order (straight 64 direction) 64 chunk (n + k) false (omega arith)
    ∙ is.past (n + k) (omega arith) (omega arith)) in
    let same : piece xs 0 n ≡ piece (memory reading words) place n =
    ext_get_or false (piece xs 0 n) (piece (memory reading words) place n)
    (length-piece xs 0 n (omega arith) ∙ sym (length-piece (memory reading words) place n room))
    (λ k low.
    let small : k < n = omega (arith, length-piece xs 0 n (omega arith)) in
    get_or-piece xs 0 n k false small
    ∙ get_or-bits_in_order (straight 64 direction) 64 chunk (0 + k) false (omega arith)
    ∙ is.inside (0 + k) (omega arith)
    ∙ ap (λ i. entry reading words (place + i)) (zero_plus k)
    ∙ sym (entry_memory reading words (place + k) some)
    ∙ sym (get_or-piece (memory reading words) place n k false small)) in
    let done : trues (piece xs 0 n) ≡ trues (piece (memory reading words) place n) = ap trues same in
    omega (arith, now, ones_straight direction chunk fits, all, parts, rest, done)

-- a chunk more
pub ones_and_more : {R : Type 0} (reading : Reading R) (words : List R) (place m n all : ℕ) (direction : Direction)
    (chunk ones more : ℕ) → all ≡ m + n → 0 < reading.bits → n ≤ 64 → place + m + n ≤ length words * reading.bits
    → chunk < 2 ^ 64 → more ≡ count_ones chunk → IsChunk reading words (place + m) n direction chunk
    → ones ≡ trues (piece (memory reading words) place m)
    → ones + more ≡ trues (piece (memory reading words) place all)
ones_and_more reading words place m n all direction chunk ones more sum some few within fits now is had =
    let next = chunk_ones reading words (place + m) n direction chunk more some few within fits now is in
    omega (arith, had, next, trues_join (memory reading words) place m (place + m) n all refl sum)

-- and there are no more of them than bits
pub ones_fit : {R : Type 0} (reading : Reading R) (words : List R) (place n ones : ℕ)
    → place + n ≤ length words * reading.bits → ones ≡ trues (piece (memory reading words) place n) → ones ≤ n
ones_fit reading words place n ones within is =
    let room : place + n ≤ length (memory reading words) = omega (arith, length-memory reading words) in
    omega (arith, is, trues_short (memory reading words) place n room)

-- the same block by another name of its place
pub chunk_at : {R : Type 0} (reading : Reading R) (words : List R) (place at n : ℕ) (direction : Direction) (chunk : ℕ)
    → place ≡ at → IsChunk reading words place n direction chunk → IsChunk reading words at n direction chunk
chunk_at reading words place at n direction chunk is had = rw (← is) had
