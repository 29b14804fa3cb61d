-- Bits of a vector that others take the place of, as contracts see them.
--
-- What a `Splice` has: `splice_vector` (the vector as it is now), `splice_loan`, `splice_place`, `splice_items`, and the
-- bits that are gone and still to come, `gone_bits`, `splice_left` of them. How it goes on: `CanStep`, `Steps`,
-- `StepsBack`.
use Rattle.std.specs.Prelude.{ℕ, ◌≡◌, ◌-◌, ◌*◌, ◌≤◌, ◌++◌, ◌∷◌, [], Bool, List, length, Option, MatchOption}
use Rattle.bit_addressing_memory.specs.Memory.{Reading, memory, piece}
use Rattle.bit_containers_vector.specs.Vector.{vec_words}
use Rattle.bit_containers_vector.specs.declared.vector.BitVec.{BitVec}
use Rattle.bit_containers_vector.specs.declared.splice.Splice.{Splice}

module _ {T O I : Type 0} {g : _} where
  abbrev pub splice_vector : Splice T O I g → BitVec T O g
  splice_vector splice = splice.vector.now

  abbrev pub splice_loan : Splice T O I g → ℕ
  splice_loan splice = splice.vector.ghost_name

  -- where the other bits go
  abbrev pub splice_place : Splice T O I g → ℕ
  splice_place splice = splice.start

  abbrev pub splice_items : Splice T O I g → I
  splice_items splice = splice.items

  -- how many bits are still to come: as many as `gone_bits` has, where these lie in the vector's words
  abbrev pub splice_left : Splice T O I g → ℕ
  splice_left splice = splice.back - splice.front

  module _ (reading : Reading T) where
    abbrev pub gone_bits : Splice T O I g → List Bool
    gone_bits splice =
        piece (memory reading (vec_words splice.vector.now)) splice.front (splice.back - splice.front)

    -- they lie in the vector's words
    abbrev pub CanStep : Splice T O I g → Type 0
    CanStep splice =
        (splice.front ≤ splice.back) × (splice.back ≤ length (vec_words splice.vector.now) * reading.bits)

    -- the vector, the place and what goes there stay
    abbrev pub Stays : Splice T O I g → Splice T O I g → Type 0
    Stays old new =
        (new.vector.now ≡ old.vector.now) × (new.vector.ghost_name ≡ old.vector.ghost_name)
        × (new.start ≡ old.start) × (new.items ≡ old.items)

    -- the first of them, and the others
    abbrev pub Steps : Splice T O I g → Option Bool → Splice T O I g → Type 0
    Steps old item new =
        Stays old new × CanStep new
        × MatchOption item ((gone_bits old ≡ []) × (gone_bits new ≡ [])) (λ x. gone_bits old ≡ x ∷ gone_bits new)

    -- the last of them, and the others
    abbrev pub StepsBack : Splice T O I g → Option Bool → Splice T O I g → Type 0
    StepsBack old item new =
        Stays old new × CanStep new
        × MatchOption item ((gone_bits old ≡ []) × (gone_bits new ≡ [])) (λ x. gone_bits old ≡ gone_bits new ++ x ∷ [])
