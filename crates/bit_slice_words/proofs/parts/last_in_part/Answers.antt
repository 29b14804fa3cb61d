use Rattle.bit_addressing_memory.proofs.Common.{◌≡◌, ◌+◌, ◌-◌, ◌*◌, ap, arith, read_by}
use Rattle.bit_slice_words.proofs.ChunkedLemmas.{back_rest, back_last, none_behind}
use Rattle.bit_slice_words.proofs.parts.last_in_part.Goals as goal

pub returns-then-behind-count : goal.returns-then-behind-count
returns-then-behind-count g c =
    let reading = read_by g.R.BitRegister g.O.Positions.position in
    let place = c.args.word * g.R.BitRegister.BITS + c.args.from in
    let count = c.args.upto - c.args.from in
    let chunk = c.raised-chunk.result in
    let other = c.opposite.result in
    let end : place + count ≡ c.args.word * g.R.BitRegister.BITS + c.args.upto = omega (arith, c.requires.order) in
    let row : c.args.word * c.bits_of.result ≡ c.args.word * g.R.BitRegister.BITS =
    ap (λ n. c.args.word * n) c.bits_of.ensures in
    rw (row, ← end) (back_last reading c.args.words.now c.args.bit place count other chunk c.chunk_without.result
    c.first_difference-behind.result (omega (arith, c.requires.few)) (omega arith)
    (back_rest reading c.args.words.now place count (64 - count) c.args.straight.direction other c.read_part-read.result chunk
    (omega (arith, c.requires.few)) c.opposite.ensures c.read_part-read.ensures c.raised-chunk.ensures)
    (c.chunk_without.ensures other) c.first_difference-behind.ensures)

pub returns-else-behind-count : goal.returns-else-behind-count
returns-else-behind-count g c =
    let reading = read_by g.R.BitRegister g.O.Positions.position in
    let place = c.args.word * g.R.BitRegister.BITS + c.args.from in
    let count = c.args.upto - c.args.from in
    let chunk = c.raised-chunk.result in
    let other = c.opposite.result in
    let end : place + count ≡ c.args.word * g.R.BitRegister.BITS + c.args.upto = omega (arith, c.requires.order) in
    rw (← end) (none_behind reading c.args.words.now c.args.bit place count count place other chunk c.chunk_without.result
    c.first_difference-behind.result (omega arith) (omega arith) (omega arith)
    (back_rest reading c.args.words.now place count (64 - count) c.args.straight.direction other c.read_part-read.result chunk
    (omega (arith, c.requires.few)) c.opposite.ensures c.read_part-read.ensures c.raised-chunk.ensures)
    (c.chunk_without.ensures other) c.first_difference-behind.ensures)
