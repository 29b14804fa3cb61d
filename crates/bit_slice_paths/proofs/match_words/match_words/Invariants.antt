use Rattle.bit_addressing_memory.proofs.Common.{◌≡◌, ℕ, ◌+◌, ◌*◌, ◌<◌, entry, read_by}
use Rattle.bit_slice_paths.proofs.match_words.match_words.Given as goal

abbrev pub invariant-loop-round : goal.invariant-loop-round
invariant-loop-round g l =
    let reading = read_by g.R.BitRegister g.O.Positions.position in
    (k : ℕ) → k < l.size * l.round * reading.bits
    → entry reading l.words (l.first * reading.bits + k) ≡ g.S.WordSource.bit l.source k
