use Rattle.bit_addressing_memory.proofs.Common.{◌≢◌, ℕ, ◌+◌, ◌<◌, memory, piece, read_by}
use Rattle.bit_slice_words.proofs.contains.contains_in.Given as goal

-- none of the pieces so far is the other list
abbrev pub invariant-loop-i : goal.invariant-loop-i
invariant-loop-i g l =
    let its = read_by g.Q.BitRegister g.P.Positions.position in
    (k : ℕ) → k < l.i
    → piece (memory (read_by g.R.BitRegister g.O.Positions.position) l.words) (l.place + k) l.other_len
    ≢ piece (memory its l.others) l.other_place l.other_len
