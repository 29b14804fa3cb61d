-- Known rows of the definitions, computed: a wrong rule among them does not check.
use Rattle.std.proofs.Common.{◌≡◌, Bool, true, false, List, [], ◌∷◌, refl}
use Rattle.bit_addressing_memory.specs.Memory.{piece}
use Rattle.bit_slice_iterators.specs.Cuts.{chunks, chunks_exact, rchunks, rchunks_exact, windows}

-- the bits 0 1 0 0 1
abbrev bits : List Bool
bits = false ∷ true ∷ false ∷ false ∷ true ∷ []

-- by 2 from the front: 01 00 1
chunks_by_2 : chunks bits 2 ≡ (false ∷ true ∷ []) ∷ (false ∷ false ∷ []) ∷ (true ∷ []) ∷ []
unfolding piece
chunks_by_2 = refl

chunks_exact_by_2 : chunks_exact bits 2 ≡ (false ∷ true ∷ []) ∷ (false ∷ false ∷ []) ∷ []
unfolding piece
chunks_exact_by_2 = refl

-- by 2 from the back: 01 10 0
rchunks_by_2 : rchunks bits 2 ≡ (false ∷ true ∷ []) ∷ (true ∷ false ∷ []) ∷ (false ∷ []) ∷ []
unfolding piece
rchunks_by_2 = refl

rchunks_exact_by_2 : rchunks_exact bits 2 ≡ (false ∷ true ∷ []) ∷ (true ∷ false ∷ []) ∷ []
unfolding piece
rchunks_exact_by_2 = refl

-- each four in a row
windows_of_4 : windows bits 4 ≡ (false ∷ true ∷ false ∷ false ∷ []) ∷ (true ∷ false ∷ false ∷ true ∷ []) ∷ []
unfolding piece
windows_of_4 = refl

-- all at once, and by more than there are
chunks_by_5 : chunks bits 5 ≡ bits ∷ []
unfolding piece
chunks_by_5 = refl

rchunks_by_6 : rchunks bits 6 ≡ bits ∷ []
unfolding piece
rchunks_by_6 = refl

windows_of_6 : windows bits 6 ≡ []
windows_of_6 = refl

chunks_exact_by_6 : chunks_exact bits 6 ≡ []
chunks_exact_by_6 = refl

-- no bits have no pieces
chunks_of_none : chunks [] 3 ≡ []
chunks_of_none = refl
