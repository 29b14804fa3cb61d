use Rattle.bit_addressing_memory.proofs.Common.{◌≡◌, ◌*◌, count_by, memory, piece, read_by}
use Rattle.bit_slice_words.proofs.count.ones_word_by_word.Given as goal

-- the ones of the words so far
abbrev pub invariant-loop-word : goal.invariant-loop-word
invariant-loop-word g l =
    let reading = read_by g.R.BitRegister g.O.Positions.position in
    l.ones ≡ count_by (λ b. b) (piece (memory reading l.body) 0 (l.word-index * g.R.BitRegister.BITS))
