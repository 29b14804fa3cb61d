-- Bits that a predicate keeps.
use Rattle.std.specs.Prelude.{ℕ, ◌≡◌, ◌+◌, ◌*◌, Bool, List, [], ◌∷◌, length, take}
use Rattle.std.specs.Fn.{Mut}
use Rattle.std.specs.List.Retain.{IsFiltered}
use Rattle.std.proofs.Common.{Bor}
use Rattle.bit_slice.specs.Memory.{Reading, memory, with_piece}
use Rattle.bit_containers_vector.specs.Vector.{vec_bits, vec_head, visible, room}
use Rattle.bit_containers_vector.specs.declared.vector.BitVec.{BitVec}
use Rattle.bit_slice.specs.Ways.{Asked}

-- ys has the bits of xs at which the predicate, asked of each index and the bit there in turn, answered true
abbrev pub Keeps : {F : Type 0} → Mut F (ℕ × (Bor Bool × Unit {0})) Bool → F → List Bool → List Bool → Type 0
Keeps {F} g f xs ys =
    IsFiltered {P = F × ℕ} (λ p bit answer q. Asked g p.0 p.1 bit answer q.0 × (q.1 ≡ p.1 + 1)) (f, 0) xs ys

-- what a predicate answers, from an index on, that answers by the index and the bit alone
abbrev pub answers_of : (ℕ → Bool → Bool) → ℕ → List Bool → List Bool
answers_of test i [] = []
answers_of test i (x ∷ xs) = test i x ∷ answers_of test (i + 1) xs

-- new begins where old does, with the same memory, and each bit of its visible words beside its list is as it was
pub record LeavesFirst {T O : Type 0} {g : _} (reading : Reading T) (old new : BitVec T O g) : Type 0 where
  pub words : memory reading (visible reading new)
      ≡ take (length (visible reading new) * reading.bits)
      (with_piece (memory reading (visible reading old)) (vec_head old) (vec_bits reading new))
  pub head : vec_head new ≡ vec_head old
  pub room : room reading new ≡ room reading old
