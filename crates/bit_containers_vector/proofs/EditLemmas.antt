-- Lists of bits with one put in, or taken out: `inserted`, `removed`; the end of a piece: `piece_behind`.
use Rattle.std.proofs.Common.{◌≡◌, ℕ, ◌+◌, ◌-◌, ◌<◌, ◌≤◌, Bool, List, ◌∷◌, [], ◌++◌, length, take, drop, set}
use Rattle.std.proofs.Common.{arith, ◌∙◌, inl, inr, length-set, get_or-set_same, get_or-set_other}
use Rattle.std.proofs.lemmas.Bool.{cases_eq}
use Rattle.std.proofs.lemmas.List.{places, same_lists}
use Rattle.std.specs.List.{insert, remove}
use Rattle.bit_addressing_memory.specs.Memory.{piece, with_piece}

-- one more at the end, those from a place on moved one further, and then that place written
pub inserted : (xs : List Bool) (i n : ℕ) (b : Bool) → n ≡ length xs → i ≤ n
    → set (with_piece (xs ++ b ∷ []) (i + 1) (piece (xs ++ b ∷ []) i (n - i))) i b ≡ insert xs i b
unfolding piece with_piece
inserted xs i n b size inside =
    let ys = xs ++ b ∷ [] in
    let zs = with_piece ys (i + 1) (piece ys i (n - i)) in
    same_lists _ _ (grind (arith, places, length-set zs i b)) (λ k d h. elim (cases_eq k i) [
      | inl same ↦ rw same (grind (arith, places, get_or-set_same zs i b d))
      | inr other ↦ get_or-set_other zs i k b d other ∙ grind (arith, places)
    ])

-- those behind a place moved one towards the front, and then the last cut off
pub removed : (xs : List Bool) (i n : ℕ) → n ≡ length xs - 1 → i < length xs
    → take n (with_piece xs i (piece xs (i + 1) (n - i))) ≡ remove xs i
unfolding piece with_piece
removed xs i n size inside = same_lists _ _ (grind (arith, places)) (λ k d h. grind (arith, places))

-- the end of a piece
pub piece_behind : (xs : List Bool) (h n i m : ℕ) → m ≡ n - i → i ≤ n
    → piece xs (h + i) m ≡ drop i (piece xs h n)
unfolding piece
piece_behind xs h n i m is inside = same_lists _ _ (grind (arith, places)) (λ k d h'. grind (arith, places))

pub ruleset edits = (inserted, removed, piece_behind)
