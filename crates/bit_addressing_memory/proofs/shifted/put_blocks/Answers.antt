use Rattle.bit_addressing_memory.proofs.Common.{arith, ◌≡◌, ◌+◌, ◌-◌, ◌*◌, ◌/◌, length, ap, read_by}
use Rattle.bit_addressing_memory.specs.Sweep.{sweep_words, way_of}
use Rattle.bit_addressing_memory.specs.Ways.{by_way}
use Rattle.bit_addressing_memory.proofs.BlockLemmas.{block_run, whole_steps}
use Rattle.bit_addressing_memory.proofs.Puts.{puts_moved}
use Rattle.bit_addressing_memory.proofs.ShiftedWords.{less_words}
use Rattle.bit_addressing_memory.proofs.WayLemmas.{ends_by_way, reads_first_at}
use Rattle.bit_addressing_memory.proofs.shifted.put_blocks.Goals as goal

pub move_blocks-requires-clause-order : goal.move_blocks-requires-clause-order
move_blocks-requires-clause-order g c =
    let task = c.args.task in
    let b = g.R.BitRegister.BITS in
    let run = block_run c.args.way b task.source task.target task.len c.args.low c.args.high c.args.word c.args.by
    c.block_words-size.result c.by_way-start.result c.by_way-start.ensures c.requires.run in
    rw run.first (reads_first_at (way_of c.args.sweep.now) task.source task.target (c.by_way-start.result * b)
    c.requires.can.order run.begins)

pub move_blocks-requires-clause-source : goal.move_blocks-requires-clause-source
move_blocks-requires-clause-source g c =
    let task = c.args.task in
    let size = c.block_words-size.result in
    let run = block_run c.args.way g.R.BitRegister.BITS task.source task.target task.len c.args.low c.args.high
    c.args.word c.args.by size c.by_way-start.result c.by_way-start.ensures c.requires.run in
    let bits = ap (λ k. (c.args.high - c.args.low) / size * k) c.block_words-size.ensures in
    omega (arith, run.first, run.begins, run.ends, bits, c.requires.can.source_lies.within)

pub move_blocks-requires-clause-within : goal.move_blocks-requires-clause-within
move_blocks-requires-clause-within g c =
    let task = c.args.task in
    let b = g.R.BitRegister.BITS in
    let size = c.block_words-size.result in
    let start = c.by_way-start.result in
    let words = length (sweep_words c.args.sweep.now) in
    let run = block_run c.args.way b task.source task.target task.len c.args.low c.args.high c.args.word c.args.by
    size start c.by_way-start.ensures c.requires.run in
    let less = less_words (start + (c.args.high - c.args.low) / size * size) (words + 1) b
    (omega (arith, run.ends, c.requires.can.target_lies.within, g.met.R.BitRegister.least_bits)) in
    omega (arith, less)

pub returns-clause-put : goal.returns-clause-put
returns-clause-put g c =
    let task = c.args.task in
    let reading = read_by g.R.BitRegister g.O.Positions.position in
    let b = reading.bits in
    let size = c.block_words-size.result in
    let low = c.args.low in
    let high = c.args.high in
    let count = (high - low) / size in
    let start = c.by_way-start.result in
    let run = block_run c.args.way b task.source task.target task.len low high c.args.word c.args.by size start
    c.by_way-start.ensures c.requires.run in
    let bits : count * size * b ≡ 64 * count = omega (arith, ap (λ k. count * k) c.block_words-size.ensures) in
    let end : start + count * size ≡ by_way c.args.way (low + count * size) high =
    rw c.by_way-start.ensures (ends_by_way c.args.way low high (count * size)
    (omega (arith, whole_steps size (high - low), c.requires.run.order))) in
    rw (← c.by_way-start.ensures, ← end) (puts_moved reading c.args.sweep.now c.move_blocks.new.self task.source
    task.target task.len start (count * size) ((c.args.word + (start - low)) * b + c.args.by) (64 * count) bits
    run.begins (omega (arith, run.ends, bits)) run.first c.move_blocks.ensures.moved c.move_blocks.ensures.few
    c.move_blocks.ensures.writes c.move_blocks.ensures.reads c.move_blocks.ensures.edge c.move_blocks.ensures.way
    c.move_blocks.ensures.lender)
