use Rattle.std.proofs.Common.{arith, ◌≡◌, ◌≢◌, ℕ, ◌+◌, ◌*◌, ◌%◌, ◌/◌, ◌<◌, ap, ◌∙◌, length, set}
use Rattle.std.proofs.lemmas.Nat.{div_below}
use Rattle.bit_addressing_memory.proofs.WindowLemmas.{length-window}
use Rattle.bit_addressing_memory.specs.Memory.{memory, piece, read_by}
use Rattle.bit_addressing_memory.specs.Sweep.{sweep_words, way_of}
use Rattle.bit_addressing_memory.specs.Ways.{edge_after}
use Rattle.bit_addressing_memory.specs.declared.sweep.Way.TheVariants.{Up}
use Rattle.bit_table_rows.proofs.KeepLemmas.{fills_put, fills_within, reads_again, word_moved}
use Rattle.bit_table_rows.proofs.keep.keep_part.Goals as goal

-- the word is full
pub returns-then-index-count : goal.returns-then-index-count
returns-then-index-count g c =
    let reading = read_by g.T.BitRegister g.O.Positions.position in
    let b = g.T.BitRegister.BITS in
    let words = sweep_words c.args.sweep.now in
    let some : 0 < b = omega (arith, g.met.T.BitRegister.least_bits) in
    let size : c.bits_of-bits.result ≡ b = c.bits_of-bits.ensures in
    let index : ℕ = c.args.to % c.bits_of-bits.result in
    let at : index ≡ c.args.to % b = ap (λ n. c.args.to % n) size in
    let more = piece (memory reading words) c.args.from c.args.count in
    let count : length more ≡ c.args.count = length-window reading words c.args.from c.args.count c.requires.within in
    let same =
    reads_again c.args.sweep.now c.begun-own.new.sweep c.taken-next.new.sweep c.begun-own.ensures.same
    c.taken-next.ensures.same in
    let word : c.args.to / c.bits_of-bits.result ≡ c.args.to / b = ap (λ n. c.args.to / n) size in
    let full : c.args.to % b + c.args.count ≡ b = rw size at c.if-index-count.true in
    let last : c.args.to % b + length more ≡ b = omega arith in
    let there : c.args.to < length words * b = omega arith in
    let low : c.args.to / b < length (sweep_words c.taken-next.new.sweep) =
    rw same.words (div_below c.args.to b (length words) some there) in
    let up : way_of c.taken-next.new.sweep ≡ Up = same.way ∙ c.requires.way in
    let stored = rw c.begun-own.ensures.same.words at c.taken-next.ensures.stored in
    fills_put reading c.args.sweep.now c.taken-next.new.sweep c.args.word c.taken-next.result c.args.first
    c.args.to more some same (c.taken-next.ensures.lender ∙ c.begun-own.ensures.lender)
    (λ before bits had.
    word_moved reading before words c.args.first c.args.to c.args.from c.args.count index bits c.args.word
    c.begun-own.result c.taken-next.result some at c.requires.within stored had
    (c.begun-own.ensures.filled before bits had))
    c.put.new.self last low
    (c.put.ensures.words ∙ ap (λ k. set (sweep_words c.taken-next.new.sweep) k c.taken-next.result) word)
    (c.put.ensures.edge ∙ ap (λ w. edge_after w (c.args.to / c.bits_of-bits.result)) up ∙ ap (λ k. k + 1) word)
    c.put.ensures.writes c.put.ensures.way c.put.ensures.lender

pub returns-else-index-count : goal.returns-else-index-count
returns-else-index-count g c =
    let reading = read_by g.T.BitRegister g.O.Positions.position in
    let b = g.T.BitRegister.BITS in
    let words = sweep_words c.args.sweep.now in
    let some : 0 < b = omega (arith, g.met.T.BitRegister.least_bits) in
    let size : c.bits_of-bits.result ≡ b = c.bits_of-bits.ensures in
    let index : ℕ = c.args.to % c.bits_of-bits.result in
    let at : index ≡ c.args.to % b = ap (λ n. c.args.to % n) size in
    let more = piece (memory reading words) c.args.from c.args.count in
    let count : length more ≡ c.args.count = length-window reading words c.args.from c.args.count c.requires.within in
    let same =
    reads_again c.args.sweep.now c.begun-own.new.sweep c.taken-next.new.sweep c.begun-own.ensures.same
    c.taken-next.ensures.same in
    let other : c.args.to % b + c.args.count ≢ b = rw size at c.if-index-count.false in
    let low : c.args.to % b + length more < b = omega arith in
    let stored = rw c.begun-own.ensures.same.words at c.taken-next.ensures.stored in
    fills_within reading c.args.sweep.now c.taken-next.new.sweep c.args.word c.taken-next.result c.args.first
    c.args.to more some same (c.taken-next.ensures.lender ∙ c.begun-own.ensures.lender)
    (λ before bits had.
    word_moved reading before words c.args.first c.args.to c.args.from c.args.count index bits c.args.word
    c.begun-own.result c.taken-next.result some at c.requires.within stored had
    (c.begun-own.ensures.filled before bits had))
    low
