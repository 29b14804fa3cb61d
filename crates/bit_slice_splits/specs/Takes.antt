-- What a call takes off the parts of a writable window: what the shared splits give, and where it lies.
--
-- Where the parts stand: `PartsState`, `state_left`. One part, in a way: `TakesPart`; all that is left: `TakesRest`; of
-- so many at most: `TakesUpTo`; the one behind k others, `TakesNth`, after which the next call may follow, `MayFollow`.
use Rattle.std.specs.Prelude.{ℕ, ◌≡◌, ◌+◌, ◌%◌, ◌≤◌, List, Bool, true, Option}
use Rattle.std.specs.Iterator.{SkipsThenYields}
use denote.Param.Always.{always_mut}
use Rattle.std.specs.Borrow.{Bor}
use Rattle.std.specs.Fn.{Mut}
use Rattle.std.specs.Option.{MatchOption}
use Rattle.bit_addressing_memory.specs.Memory.{Reading, memory, piece}
use Rattle.bit_slice_splits.specs.Ways.{CountsDown, Ends, Parts, SplitLeft, SplitWay}
use Rattle.bit_slice_splits.specs.declared.splits_mut.SplitsMut.{SplitsMut}

-- where the parts of a window stand: the place and the length of the window; where in it the bits not yet split begin,
-- and how many they are; the same of the part that was found last; the predicate, whether no part is left, and how many
-- may come where so many come at most
pub record PartsState (F : Type 0) : Type 0 where
  pub place : ℕ
  pub len : ℕ
  pub from : ℕ
  pub count : ℕ
  pub start : ℕ
  pub size : ℕ
  pub callee : F
  pub done : Bool
  pub most : ℕ

abbrev pub parts_state : {V F A B S O : Type 0} → SplitsMut V F A B S O → PartsState F
parts_state parts = record {
  place = parts.head;
  len = parts.len;
  from = parts.from;
  count = parts.count;
  start = parts.start;
  size = parts.size;
  callee = parts.f;
  done = parts.done;
  most = parts.most;
}

-- what is left, in words that are read so
abbrev pub state_left : {F S : Type 0} → Reading S → List S → PartsState F → SplitLeft F
state_left reading words s = record {
  bits = piece (piece (memory reading words) s.place s.len) s.from s.count;
  head = (s.place + s.from) % reading.bits;
  callee = s.callee;
  done = s.done;
}

-- the part comes off in this way, and what was found and what is left lie where the way says
pub record PartLies {F S : Type 0} (reading : Reading S) (words : List S) (way : SplitWay)
    (g : Mut F (ℕ × (Bor Bool × Unit {0})) Bool) (before : PartsState F) (part : List Bool) (after : PartsState F)
    : Type 0 where
  pub parts : Parts way g (state_left reading words before) part (state_left reading words after)
  pub start_is : after.start ≡ before.from + way.start before.count parts.asked
  pub size_is : after.size ≡ way.size before.count parts.asked
  pub from_is : after.from ≡ before.from + way.rest before.count parts.asked
  pub count_is : after.count ≡ way.rest_size before.count parts.asked

-- all that is left comes as the last part, from where it lies
pub record RestLies {F S : Type 0} (reading : Reading S) (words : List S) (before : PartsState F) (part : List Bool)
    (after : PartsState F) : Type 0 where
  pub ends : Ends (state_left reading words before) part (state_left reading words after)
  pub start_is : after.start ≡ before.from
  pub size_is : after.size ≡ before.count

-- a call that takes one part off in this way, or nothing where none is left
abbrev pub TakesPart : {F S : Type 0} → Reading S → List S → SplitWay → Mut F (ℕ × (Bor Bool × Unit {0})) Bool
    → PartsState F → Option (List Bool) → PartsState F → Type 0
TakesPart reading words way g before r after =
    MatchOption r ((before.done ≡ true) × (after ≡ before)) (λ part. PartLies reading words way g before part after)

-- a call that takes all that is left, or nothing where nothing is
abbrev pub TakesRest : {F S : Type 0} → Reading S → List S → PartsState F → Option (List Bool) → PartsState F → Type 0
TakesRest reading words before r after =
    MatchOption r ((before.done ≡ true) × (after ≡ before)) (λ part. RestLies reading words before part after)

-- a call that takes one of so many parts at most
abbrev pub TakesUpTo : {F S : Type 0} → Reading S → List S → SplitWay → Mut F (ℕ × (Bor Bool × Unit {0})) Bool
    → PartsState F → Option (List Bool) → PartsState F → Type 0
TakesUpTo reading words way g =
    CountsDown (λ s. s.most)
    (λ before r after. TakesPart reading words way g before r (record after { most = before.most }))
    (λ before r after. TakesRest reading words before r (record after { most = before.most }))

-- the bits that are left and the part that was found last lie in the window, and the predicate may be called: so the next
-- call may follow
pub record MayFollow {F : Type 0} (g : Mut F (ℕ × (Bor Bool × Unit {0})) Bool) (s : PartsState F) : Type 0 where
  pub left : s.from + s.count ≤ s.len
  pub found : s.start + s.size ≤ s.len
  pub callable : always_mut g s.callee

-- calls that each take a part so pass over k parts, or over all where fewer are left, and then one more is made
abbrev pub TakesNth : {F : Type 0} → Mut F (ℕ × (Bor Bool × Unit {0})) Bool
    → (PartsState F → Option (List Bool) → PartsState F → Type 0) → ℕ
    → PartsState F → Option (List Bool) → PartsState F → Type 0
TakesNth g takes k before r after = SkipsThenYields takes before k r after × MayFollow g after
