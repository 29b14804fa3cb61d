-- For callers.
--
-- What the writes of a piece make of the whole window: `lent_written`. That what was lent is a part: `is_part`. What
-- shared pieces give in turn, their bits and where they lie: `pieces_run`, `heads_run`; that `nth` and `nth_back` keep
-- what is cut: `kept_by_nth`.
use Rattle.std.proofs.Common.{◌≡◌, ℕ, ◌+◌, ◌*◌, ◌≤◌, Bool, List, [], ◌∷◌, Option, length, sym, ap, ◌∙◌, arith, refl, subst}
use Rattle.std.proofs.lemmas.Iterator.{YieldsList}
use Rattle.std.proofs.lemmas.Iterator.Consumers.{YieldsList-from_shown}
use Rattle.std.specs.Iterator.{SkipsThenYields, Yields}
use Rattle.bit_addressing_memory.specs.Memory.{memory, piece, with_piece}
use Rattle.bit_slice_access.specs.Frame.{frame_of}
use Rattle.bit_slice_access.specs.Parts.{IsPart, Windows}
use Rattle.bit_slice_access.specs.PartLender.{PartLender}
use Rattle.bit_slice_access.proofs.PartLemmas.{part_written}
use Rattle.bit_slice_iterators.specs.Cuts.{GivesFirst, KeepsCut, PiecesLeft}

-- the lender of a part, in place of its window's
abbrev part_of : {X : Type 0} → ℕ → ℕ → X → PartLender X
part_of head len lender = record { loan = 0; lender = lender; head = head; len = len }

-- a piece whose frame stays: the whole window is as it was but for the piece's bits, and so is its frame
pub lent_written : {V X R : Type 0} (of : Windows V X R) (v lent last : V) (head len start n : ℕ)
    → IsPart of v (head + start) n lent → of.frame last ≡ of.frame lent → length (of.bits last) ≡ n
    → start + n ≤ len → head + len ≤ length (of.words v) * of.reading.bits
    → (piece (memory of.reading (of.words last)) head len
    ≡ with_piece (piece (memory of.reading (of.words v)) head len) start (of.bits last))
    × (frame_of of.reading (of.lender last) (of.words last) head len
    ≡ frame_of of.reading (of.lender v) (of.words v) head len)
lent_written of v lent last head len start n part kept size inside fits =
    let frames : frame_of of.reading (of.lender last) (of.words last) (of.place last) (length (of.bits last))
    ≡ frame_of of.reading (of.lender lent) (of.words lent) (of.place lent) (length (of.bits lent)) =
    sym (of.framed last) ∙ kept ∙ of.framed lent in
    let parts : frame_of of.reading (part_of head len (of.lender last)) (of.words last) (of.place last)
    (length (of.bits last))
    ≡ frame_of of.reading (part_of head len (of.lender lent)) (of.words lent) (of.place lent)
    (length (of.bits lent)) =
    ap (λ f. record {
      lender = part_of head len f.lender;
      words = f.words;
      place = f.place;
      before = f.before;
      behind = f.behind;
    }) frames in
    let many : length (of.bits last) ≡ length (of.bits lent) = size ∙ sym part.len in
    let room : start + length (of.bits lent) ≤ len = omega (arith, part.len) in
    let lies : head + len ≤ length (of.words lent) * of.reading.bits = rw part.words fits in
    let done = part_written of.reading (of.words lent) (of.words last) (part_of head len (of.lender lent))
    (part_of head len (of.lender last)) (of.place lent) (of.place last) (length (of.bits lent))
    (length (of.bits last)) start parts many part.place room lies in (
      done.0
          ∙ ap (λ w. with_piece (piece (memory of.reading w) head len) start
          (piece (memory of.reading (of.words last)) (of.place last) (length (of.bits last)))) part.words
          ∙ ap (with_piece (piece (memory of.reading (of.words v)) head len) start) (sym (of.window last)),
      done.1 ∙ rw (part.words, part.lender) refl,
    )

-- the pieces come in turn, and each from where it lies
pub pieces_run : {A : Type 0} (bits : A → List Bool) (head : A → ℕ) (s : PiecesLeft) (all : List (List Bool))
    → s.left ≡ all → YieldsList (GivesFirst bits head) bits s all
pieces_run bits head s all is =
    subst (λ xs. YieldsList (GivesFirst bits head) bits s xs) is
    (YieldsList-from_shown (GivesFirst bits head) bits (λ pieces. pieces.left) (λ p t none. ap length none.0.0)
    (λ p x t some. some.0) s)

pub heads_run : {A : Type 0} (bits : A → List Bool) (head : A → ℕ) (s : PiecesLeft) (all : List ℕ) → s.heads ≡ all
    → YieldsList (GivesFirst bits head) head s all
heads_run bits head s all is =
    subst (λ xs. YieldsList (GivesFirst bits head) head s xs) is
    (YieldsList-from_shown (GivesFirst bits head) head (λ pieces. pieces.heads) (λ p t none. ap length none.1.0)
    (λ p x t some. some.1) s)

-- a run of calls keeps what is cut where each call does
kept_by_run : {A : Type 0} (steps : PiecesLeft → Option A → PiecesLeft → Type 0)
    → ((s : PiecesLeft) (r : Option A) (t : PiecesLeft) → steps s r t → KeepsCut s t)
    → (xs : List A) (s t : PiecesLeft) → Yields steps s xs t → KeepsCut s t
kept_by_run steps keeps [] s t same =
    (ap (λ p. p.bits) (sym same), ap (λ p. p.head) (sym same), ap (λ p. p.size) (sym same))
kept_by_run steps keeps (x ∷ xs) s t (next, step, rest) =
    let first = keeps s _ next step in
    let others = kept_by_run steps keeps xs next t rest in
    (others.0 ∙ first.0, others.1 ∙ first.1, others.2 ∙ first.2)

-- and so does a call that passes over some
pub kept_by_nth : {A : Type 0} (steps : PiecesLeft → Option A → PiecesLeft → Type 0)
    → ((s : PiecesLeft) (r : Option A) (t : PiecesLeft) → steps s r t → KeepsCut s t)
    → (s : PiecesLeft) (n : ℕ) (r : Option A) (u : PiecesLeft) → SkipsThenYields steps s n r u → KeepsCut s u
kept_by_nth steps keeps s n r u ran =
    let first = kept_by_run steps keeps ran.0 s ran.1.0 ran.1.1 in
    let last = keeps ran.1.0 r u ran.1.2 in
    (last.0 ∙ first.0, last.1 ∙ first.1, last.2 ∙ first.2)
