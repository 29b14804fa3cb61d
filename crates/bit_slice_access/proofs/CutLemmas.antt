-- What writes through parts of a window that is cut make of it, part by part: `part_step`; one bit: `part_set`.
use Rattle.std.proofs.Common.{◌≡◌, ℕ, ◌+◌, ◌*◌, ◌<◌, ◌≤◌, Bool, length, set, sym, ap, ◌∙◌, arith}
use Rattle.bit_addressing_memory.specs.Memory.{memory, piece, with_piece}
use Rattle.bit_addressing_memory.proofs.MemoryLemmas.{length-memory, length-piece, piece_piece}
use Rattle.bit_slice_access.specs.PartLender.{PartLender}
use Rattle.bit_slice_access.proofs.PartLemmas.{part_written, piece_same, piece_set}
use Rattle.bit_slice_views_mut.specs.Frame.{Frame, frame_of}
use Rattle.bit_slice_views_mut.specs.Parts.{Windows}

-- a part whose frame stays: the n bits of its words from a place on are as they were but for the part's, and so is their
-- frame
pub part_step : {V X R : Type 0} (of : Windows V X R) (old new : V) (at n from : ℕ) → of.frame new ≡ of.frame old
    → length (of.bits new) ≡ length (of.bits old) → of.place old ≡ at + from → from + length (of.bits old) ≤ n
    → at + n ≤ length (of.words old) * of.reading.bits
    → (piece (memory of.reading (of.words new)) at n
    ≡ with_piece (piece (memory of.reading (of.words old)) at n) from (of.bits new))
    × (frame_of of.reading (of.lender new) (of.words new) at n
    ≡ frame_of of.reading (of.lender old) (of.words old) at n)
    × (length (of.words new) ≡ length (of.words old))
part_step {X = X} of old new at n from kept many there inside fits =
    let r = of.reading in
    let outer : frame_of r (of.lender new) (of.words new) (of.place new) (length (of.bits new))
    ≡ frame_of r (of.lender old) (of.words old) (of.place old) (length (of.bits old)) =
    sym (of.framed new) ∙ kept ∙ of.framed old in
    let lent : X → PartLender X = λ x. record { loan = 0; lender = x; head = at; len = n } in
    let held : Frame X → Frame (PartLender X) = λ f.
    record { lender = lent f.lender; words = f.words; place = f.place; before = f.before; behind = f.behind } in
    let done = part_written r (of.words old) (of.words new) (lent (of.lender old)) (lent (of.lender new)) (of.place old)
    (of.place new) (length (of.bits old)) (length (of.bits new)) from (ap held outer) many there inside fits in
    (done.0 ∙ ap (with_piece (piece (memory r (of.words old)) at n) from) (sym (of.window new)), done.1, ap (λ f. f.words) outer)

-- a part of which one bit was set: so it is in the whole
pub part_set : {V X R : Type 0} (of : Windows V X R) (old new : V) (at n from i : ℕ) (bit : Bool)
    → of.frame new ≡ of.frame old → of.bits new ≡ set (of.bits old) i bit → length (of.bits new) ≡ length (of.bits old)
    → i < length (of.bits old) → of.place old ≡ at + from → from + length (of.bits old) ≤ n
    → at + n ≤ length (of.words old) * of.reading.bits
    → (piece (memory of.reading (of.words new)) at n
    ≡ set (piece (memory of.reading (of.words old)) at n) (from + i) bit)
    × (frame_of of.reading (of.lender new) (of.words new) at n
    ≡ frame_of of.reading (of.lender old) (of.words old) at n)
    × (length (of.words new) ≡ length (of.words old))
part_set of old new at n from i bit kept is many low there inside fits =
    let m = memory of.reading (of.words old) in
    let xs = piece m at n in
    let k = length (of.bits old) in
    let step = part_step of old new at n from kept many there inside fits in
    let size : length xs ≡ n = length-piece m at n (omega (arith, length-memory of.reading (of.words old))) in
    let shown : of.bits old ≡ piece xs from k =
    of.window old ∙ ap (λ p. piece m p k) there ∙ sym (piece_piece m at n from k inside) in
    let room : from + length (of.bits old) ≤ length xs = omega arith in (
      step.0 ∙ ap (with_piece xs from) is ∙ piece_set xs (of.bits old) from i bit room low
          ∙ ap (λ ys. set (with_piece xs from ys) (from + i) bit) shown
          ∙ ap (λ ys. set ys (from + i) bit) (piece_same xs from k (omega arith)),
      step.1,
      step.2,
    )
