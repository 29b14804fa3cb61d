-- The parts of a writable window that are looked for and lent in turn, as contracts see them.
--
-- The window, as its last borrower left it: `parts_view`, `parts_loan`; where it lies when it shows all its bits:
-- `parts_place`, `parts_len`; its bits and its frame as they are then: `parts_whole`, `parts_around`. What is left to
-- be split: `parts_left`; how many parts may still come: `parts_most`. The part that was found:
-- `parts_found_start`, `parts_found_len`, `parts_found`. Freshly made: `SplitsAll`. Calls: `KeepsWindow`.
use Rattle.std.specs.Prelude.{ℕ, ◌≡◌, ◌+◌, ◌*◌, ◌%◌, ◌<◌, ◌≤◌, ◌^◌, List, Bool, length, Option, Some, None}
use Rattle.std.proofs.Common.{cond}
use Rattle.bit_addressing_memory.specs.Memory.{Reading, memory, piece}
use Rattle.bit_slice_views.specs.SpanLimits.{MAX_BITS}
use Rattle.bit_slice_views_mut.specs.Frame.{Frame, frame_of}
use Rattle.std.specs.Borrow.{Bor}
use Rattle.std.specs.Fn.{Mut}
use Rattle.bit_slice_splits.specs.Ways.{Asks, SplitLeft, SplitWay}
use Rattle.bit_slice_splits.specs.declared.splits_mut.SplitsMut.{SplitsMut}

-- the window, as it is now, and the loan of it
abbrev pub parts_view : {V F A B S O : Type 0} → SplitsMut V F A B S O → V
parts_view parts = parts.of.now

abbrev pub parts_loan : {V F A B S O : Type 0} → SplitsMut V F A B S O → ℕ
parts_loan parts = parts.of.ghost_name

-- the place of the whole window's first bit, and how many bits it has
abbrev pub parts_place : {V F A B S O : Type 0} → SplitsMut V F A B S O → ℕ
parts_place parts = parts.head

abbrev pub parts_len : {V F A B S O : Type 0} → SplitsMut V F A B S O → ℕ
parts_len parts = parts.len

-- where the bits that are not yet split begin, and how many they are
abbrev pub parts_from : {V F A B S O : Type 0} → SplitsMut V F A B S O → ℕ
parts_from parts = parts.from

abbrev pub parts_count : {V F A B S O : Type 0} → SplitsMut V F A B S O → ℕ
parts_count parts = parts.count

-- whether no part is left
abbrev pub parts_done : {V F A B S O : Type 0} → SplitsMut V F A B S O → Bool
parts_done parts = parts.done

-- where the part that was found last begins, and how long it is
abbrev pub parts_found_start : {V F A B S O : Type 0} → SplitsMut V F A B S O → ℕ
parts_found_start parts = parts.start

abbrev pub parts_found_len : {V F A B S O : Type 0} → SplitsMut V F A B S O → ℕ
parts_found_len parts = parts.size

-- the bits of the whole window, in words that are read so
abbrev pub parts_whole : {V F A B S O : Type 0} → Reading S → (V → List S) → SplitsMut V F A B S O → List Bool
parts_whole reading words parts = piece (memory reading (words parts.of.now)) parts.head parts.len

-- the frame of the whole window
abbrev pub parts_around : {V F A B S O X : Type 0} → Reading S → (V → X) → (V → List S) → SplitsMut V F A B S O
    → Frame X
parts_around reading lender words parts =
    frame_of reading (lender parts.of.now) (words parts.of.now) parts.head parts.len

-- what is left
abbrev pub parts_left : {V F A B S O : Type 0} → Reading S → (V → List S) → SplitsMut V F A B S O → SplitLeft F
parts_left reading words parts = record {
  bits = piece (piece (memory reading (words parts.of.now)) parts.head parts.len) parts.from parts.count;
  head = (parts.head + parts.from) % reading.bits;
  callee = parts.f;
  done = parts.done;
}

-- how many parts may still come, where so many come at most
abbrev pub parts_most : {V F A B S O : Type 0} → SplitsMut V F A B S O → ℕ
parts_most parts = parts.most

-- the bits of the part that was found last, where a search found one
abbrev pub parts_found : {V F A B S O : Type 0} → Reading S → (V → List S) → Bool → SplitsMut V F A B S O
    → Option (List Bool)
parts_found reading words found parts =
    cond found (Some (piece (parts_whole reading words parts) parts.start parts.size)) None

-- the predicate
abbrev pub parts_callee : {V F A B S O : Type 0} → SplitsMut V F A B S O → F
parts_callee parts = parts.f

-- these bits' part of so many from `start` on comes off, and so many from `rest` on are left
pub record PartsBy {F : Type 0} (way : SplitWay) (g : Mut F (ℕ × (Bor Bool × Unit {0})) Bool) (bits : List Bool) (f : F)
    (start size rest rest_size : ℕ) (last : Bool) (f' : F) : Type 0 where
  pub asked : ℕ
  pub within : asked ≤ way.tries (length bits)
  pub asks : Asks way g bits f asked f'
  pub start_is : start ≡ way.start (length bits) asked
  pub size_is : size ≡ way.size (length bits) asked
  pub rest_is : rest ≡ way.rest (length bits) asked
  pub rest_size_is : rest_size ≡ way.rest_size (length bits) asked
  pub last_is : last ≡ way.last (length bits) asked

-- they lie in the window, and this in its words
pub record LiesIn {V F A B S O : Type 0} (bits : ℕ) (words : V → List S) (parts : SplitsMut V F A B S O)
    : Type 0 where
  pub left : parts.from + parts.count ≤ parts.len
  pub found : parts.start + parts.size ≤ parts.len
  pub fits : parts.head + parts.len ≤ length (words parts.of.now) * bits
  pub short : parts.len ≤ MAX_BITS
  pub small : parts.head + parts.len < 2 ^ 63

-- a search leaves the whole window as it is
pub record KeepsWindow {V F A B S O X : Type 0} (lender : V → X) (words : V → List S)
    (before after : SplitsMut V F A B S O) : Type 0 where
  pub loan : parts_loan after ≡ parts_loan before
  pub place_is : parts_place after ≡ parts_place before
  pub len_is : parts_len after ≡ parts_len before
  pub words_are : words (parts_view after) ≡ words (parts_view before)
  pub lender_is : lender (parts_view after) ≡ lender (parts_view before)

-- these are all parts of the window v by a predicate, and none was looked for yet
pub record SplitsAll {V F A B S O X : Type 0} (reading : Reading S) (lender : V → X) (words : V → List S)
    (place : V → ℕ) (bits : V → List Bool) (frame : V → Frame X) (v : V) (f : F) (parts : SplitsMut V F A B S O)
    : Type 0 where
  pub value : parts_view parts ≡ v
  pub place_is : parts_place parts ≡ place v
  pub len : parts_len parts ≡ length (bits v)
  pub whole : parts_whole reading words parts ≡ bits v
  pub around : parts_around reading lender words parts ≡ frame v
  pub from_is : parts_from parts ≡ 0
  pub count_is : parts_count parts ≡ length (bits v)
  pub left : (parts_left reading words parts).bits ≡ bits v
  pub callee_is : parts_callee parts ≡ f
  pub lies : LiesIn reading.bits words parts
