-- The pieces of a writable window that are lent in turn, as contracts see them.
--
-- The window, as its last borrower left it: `pieces_view`, `pieces_loan`; where it lies when it shows all its bits:
-- `pieces_place`, `pieces_len`; its bits and its frame as they are then: `pieces_whole`, `pieces_around`. How it is cut:
-- `pieces_size`; which pieces were not lent yet: those from `pieces_front` up to before `pieces_back`; whether the bits
-- that are in none were taken: `pieces_taken`, `rest_left`. Freshly made: `CutsAll`. What their calls ask: `PiecesLie`.
use Rattle.std.specs.Prelude.{ℕ, ◌≡◌, ◌+◌, ◌*◌, ◌<◌, ◌≤◌, ◌^◌, Bool, true, false, List, length}
use Rattle.bit_addressing_memory.specs.Memory.{Reading, memory, piece}
use Rattle.bit_slice_views.specs.SpanLimits.{MAX_BITS}
use Rattle.bit_slice_iterators.specs.Cuts.{Cut}
use Rattle.bit_slice_access.specs.Frame.{Frame, frame_of}
use Rattle.bit_slice_iterators.specs.declared.pieces_mut.PiecesMut.{PiecesMut}

-- the window, as it is now
abbrev pub pieces_view : {V C S O : Type 0} → PiecesMut V C S O → V
pieces_view pieces = pieces.of.now

-- the loan of that window: whoever lent it has it again where this stays
abbrev pub pieces_loan : {V C S O : Type 0} → PiecesMut V C S O → ℕ
pieces_loan pieces = pieces.of.ghost_name

-- the place of the whole window's first bit, and how many bits it has
abbrev pub pieces_place : {V C S O : Type 0} → PiecesMut V C S O → ℕ
pieces_place pieces = pieces.head

abbrev pub pieces_len : {V C S O : Type 0} → PiecesMut V C S O → ℕ
pieces_len pieces = pieces.len

-- the size that it is cut by
abbrev pub pieces_size : {V C S O : Type 0} → PiecesMut V C S O → ℕ
pieces_size pieces = pieces.by

-- the number of the next piece from the front, and how many come before the next one from the back is lent
abbrev pub pieces_front : {V C S O : Type 0} → PiecesMut V C S O → ℕ
pieces_front pieces = pieces.front

abbrev pub pieces_back : {V C S O : Type 0} → PiecesMut V C S O → ℕ
pieces_back pieces = pieces.back

-- whether the bits that are in no piece were taken
abbrev pub pieces_taken : {V C S O : Type 0} → PiecesMut V C S O → Bool
pieces_taken pieces = pieces.taken

-- how many of them are left
abbrev pub rest_left : Bool → ℕ → ℕ
rest_left true n = 0
rest_left false n = n

-- the bits of the whole window, in words that are read so
abbrev pub pieces_whole : {V C S O : Type 0} → Reading S → (V → List S) → PiecesMut V C S O → List Bool
pieces_whole reading words pieces = piece (memory reading (words pieces.of.now)) pieces.head pieces.len

-- the frame of the whole window
abbrev pub pieces_around : {V C S O X : Type 0} → Reading S → (V → X) → (V → List S) → PiecesMut V C S O → Frame X
pieces_around reading lender words pieces =
    frame_of reading (lender pieces.of.now) (words pieces.of.now) pieces.head pieces.len

-- these are all pieces, by a size, of the window v, and none was lent yet
pub record CutsAll {V C S O X : Type 0} (reading : Reading S) (lender : V → X) (words : V → List S) (place : V → ℕ)
    (bits : V → List Bool) (frame : V → Frame X) (cut : Cut) (v : V) (size : ℕ) (pieces : PiecesMut V C S O)
    : Type 0 where
  pub value : pieces_view pieces ≡ v
  pub place_is : pieces_place pieces ≡ place v
  pub len : pieces_len pieces ≡ length (bits v)
  pub whole : pieces_whole reading words pieces ≡ bits v
  pub around : pieces_around reading lender words pieces ≡ frame v
  pub size_is : pieces_size pieces ≡ size
  pub front : pieces_front pieces ≡ 0
  pub back : pieces_back pieces ≡ cut.count (length (bits v)) size
  pub taken : pieces_taken pieces ≡ false
  -- what the window's type says
  pub short : pieces_len pieces ≤ MAX_BITS
  pub small : pieces_place pieces + pieces_len pieces < 2 ^ 63

-- the pieces lie in the window, and this in its words, of b bits: what a function that is handed pieces asks of them to
-- lend some
pub record PiecesLie {V C S O : Type 0} (b : ℕ) (words : V → List S) (cut : Cut) (pieces : PiecesMut V C S O)
    : Type 0 where
  pub some : 0 < pieces_size pieces
  pub ordered : pieces_front pieces ≤ pieces_back pieces
  pub within : pieces_back pieces ≤ cut.count (pieces_len pieces) (pieces_size pieces)
  pub fits : pieces_place pieces + pieces_len pieces ≤ length (words (pieces_view pieces)) * b
  pub short : pieces_len pieces ≤ MAX_BITS
  pub small : pieces_place pieces + pieces_len pieces < 2 ^ 63
