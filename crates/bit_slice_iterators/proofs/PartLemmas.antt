-- What a window that was narrowed shows.
use Rattle.std.proofs.Common.{◌≡◌, ℕ, ◌+◌, ◌≤◌, Bool, List, sym, ◌∙◌, refl}
use Rattle.bit_addressing_memory.specs.Memory.{Reading, memory, piece}
use Rattle.bit_addressing_memory.proofs.MemoryLemmas.{piece_piece}

-- the bits of a part, as those of the whole
pub part_bits : {R : Type 0} (reading : Reading R) (words shown : List R) (at n head len start size : ℕ)
    (bits : List Bool)
    → bits ≡ piece (memory reading shown) at n → shown ≡ words → at ≡ head + start → n ≡ size → start + size ≤ len
    → bits ≡ piece (piece (memory reading words) head len) start size
part_bits reading words shown at n head len start size bits is same there many inside =
    is ∙ rw (same, there, many) refl ∙ sym (piece_piece (memory reading words) head len start size inside)
