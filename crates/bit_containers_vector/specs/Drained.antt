-- Bits that were taken out of the middle of a vector.
--
-- What a `Drain` has left: `drain_bits`. Where it lies: `drain_words`, `drain_place`, `drain_head`. What a call of it takes
-- off: `GivesFirstGone`, `GivesLastGone`. The vector without the bits: `IsCut`.
use Rattle.std.specs.Prelude.{ℕ, ◌≡◌, ◌+◌, ◌-◌, ◌*◌, ◌%◌, ◌≤◌, ◌++◌, Bool, List, length, take, drop, Option, MatchOption}
use Rattle.std.specs.Iterator.{YieldsFirst, YieldsLast}
use Rattle.bit_addressing_memory.specs.declared.BitRegister.{Ghosts}
use Rattle.bit_addressing_memory.specs.Memory.{Reading, memory, piece}
use Rattle.bit_containers_vector.specs.Vector.{vec_bits, vec_head, vec_words, room}
use Rattle.bit_containers_vector.specs.declared.vector.BitVec.{BitVec}
use Rattle.bit_containers_vector.specs.declared.drain.Drain.{Drain}

-- those that are still to come
abbrev pub drain_bits : {T O : Type 0} {g : _} → Reading T → Drain T O g → List Bool
drain_bits reading drain = piece (memory reading drain.words.now) drain.place drain.len

-- the words in which they lie, which are the vector's
abbrev pub drain_words : {T O : Type 0} {g : _} → Drain T O g → List T
drain_words drain = drain.words.now

-- the place of the first of them in these words
abbrev pub drain_place : {T O : Type 0} {g : _} → Drain T O g → ℕ
drain_place drain = drain.place

-- the index of the first of them in the word where it lies
abbrev pub drain_head : {T O : Type 0} {g : Ghosts T} → Drain T O g → ℕ
drain_head {g} drain = drain.place % g.BITS

-- a call gives the first bit, or nothing where none is left; what is left then begins behind it, in the same words
abbrev pub GivesFirstGone : {T O : Type 0} {g : _} → Reading T → Drain T O g → Option Bool → Drain T O g → Type 0
GivesFirstGone reading before r after =
    YieldsFirst (drain_bits reading) before r after
    × (drain_words after ≡ drain_words before)
    × MatchOption r (drain_place after ≡ drain_place before) (λ _. drain_place after ≡ drain_place before + 1)

-- the same of the last bit: what is left begins where it did
abbrev pub GivesLastGone : {T O : Type 0} {g : _} → Reading T → Drain T O g → Option Bool → Drain T O g → Type 0
GivesLastGone reading before r after =
    YieldsLast (drain_bits reading) before r after
    × (drain_words after ≡ drain_words before)
    × (drain_place after ≡ drain_place before)

-- new is old without the bits from `from` up to `upto`, from the same head on, with the same memory
pub record IsCut {T O : Type 0} {g : _} (reading : Reading T) (from upto : ℕ) (old new : BitVec T O g) : Type 0 where
  pub bits : vec_bits reading new ≡ take from (vec_bits reading old) ++ drop upto (vec_bits reading old)
  pub head : vec_head new ≡ vec_head old
  pub room : room reading new ≡ room reading old

-- and they stand behind its last bit
pub record Cut {T O : Type 0} {g : _} (reading : Reading T) (from upto : ℕ) (old new : BitVec T O g) : Type 0 where
  pub cut : IsCut reading from upto old new
  pub gone : piece (memory reading (vec_words new)) (new.head + new.len) (upto - from)
      ≡ piece (vec_bits reading old) from (upto - from)
  pub held : new.head + new.len + (upto - from) ≤ length (vec_words new) * reading.bits
