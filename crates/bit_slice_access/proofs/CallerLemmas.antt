-- For callers.
--
-- What writes through a part make of the window: `part_kept`. In lists: `piece_set` and `piece_same` of PartLemmas.
use Rattle.std.proofs.Common.{◌≡◌, ℕ, ◌+◌, ◌*◌, ◌≤◌, Bool, List, length, sym, ap, ◌∙◌, arith}
use Rattle.bit_addressing_memory.specs.Memory.{Reading, memory, piece, with_piece}
use Rattle.bit_slice_views_mut.specs.Frame.{Frame, frame_of}
use Rattle.bit_slice_access.specs.Part.{part_lender, part_whole, part_around}
use Rattle.bit_slice_access.specs.Shows.{IsPartOf}
use Rattle.bit_slice_access.specs.declared.part.Part.{Part}
use Rattle.bit_slice_access.proofs.PartLemmas.{part_written}

-- a part whose frame stays keeps its loan of the window, writes its bits into the window's list, and keeps its frame
pub part_kept : {V S O X : Type 0} {m b r c p : _} {reading : Reading S} {lender : V → X} {words : V → List S}
    {place : V → ℕ} {bits : V → List Bool} {frame : V → Frame X} {v : V} {from n : ℕ} {old : Part V S O m b r c p}
    → IsPartOf reading lender words place bits frame v from n old → (new : Part V S O m b r c p)
    → frame_of reading (part_lender lender new) (words new.of.now) (place new.of.now) (length (bits new.of.now))
    ≡ frame_of reading (part_lender lender old) (words old.of.now) (place old.of.now) (length (bits old.of.now))
    → length (bits new.of.now) ≡ n
    → bits new.of.now ≡ piece (memory reading (words new.of.now)) (place new.of.now) (length (bits new.of.now))
    → from + n ≤ length (bits v) → old.head + old.len ≤ length (words old.of.now) * reading.bits
    → (new.of.ghost_name ≡ old.of.ghost_name)
    × (part_whole reading words new ≡ with_piece (bits v) from (bits new.of.now))
    × (part_around reading lender words new ≡ frame v)
part_kept {reading = reading} {lender = lender} {words = words} {place = place} {bits = bits} {from = from} {old = old}
    is new same many shown inside fits =
    let room : from + length (bits old.of.now) ≤ old.len = omega (arith, is.len, is.whole_len) in
    let size : length (bits new.of.now) ≡ length (bits old.of.now) = many ∙ sym is.len in
    let done = part_written reading (words old.of.now) (words new.of.now) (part_lender lender old)
    (part_lender lender new) (place old.of.now) (place new.of.now) (length (bits old.of.now))
    (length (bits new.of.now)) from same size is.place_is room fits in (
      ap (λ f. f.lender.loan) same,
      done.0 ∙ ap (with_piece (part_whole reading words old) from) (sym shown)
          ∙ ap (λ xs. with_piece xs from (bits new.of.now)) is.whole,
      done.1 ∙ is.around,
    )
