use Rattle.bit_addressing_memory.proofs.Common.{◌≡◌, ◌+◌, ◌-◌, ◌*◌, ◌<◌, length, ap, ◌∙◌, arith}
use Rattle.bit_addressing_memory.proofs.Common.{entry, read_by}
use Rattle.bit_addressing_memory.specs.Chunk.{chunk_bit}
use Rattle.bit_addressing_memory.proofs.BlockLemmas.{block_size, moves_down, moves_up, narrow_words}
use Rattle.bit_addressing_memory.proofs.BlockLemmas.{step_at, step_begins, step_reads, step_writes}
use Rattle.bit_addressing_memory.proofs.blocks.move_blocks.Goals as goal

pub overflow_add-from : goal.overflow_add-from
overflow_add-from g c =
    let b = g.R.BitRegister.BITS in
    let words = length c.args.words.now in
    let reads = step_reads b c.args.from c.up.m c.args.size c.args.by c.args.count words c.requires.size (omega arith)
    c.requires.source in
    let low = step_begins b (c.args.from + c.up.m * c.args.size) c.args.by words reads in
    omega (arith, low, c.up.invariant.moved.words, c.up.auto.words)

pub read_block_from-block-requires-clause-narrow : goal.read_block_from-block-requires-clause-narrow
read_block_from-block-requires-clause-narrow g c = narrow_words g.R.BitRegister.BITS c.args.size c.requires.size

pub read_block_from-block-requires-clause-lies : goal.read_block_from-block-requires-clause-lies
read_block_from-block-requires-clause-lies g c =
    rw c.up.invariant.moved.words (step_reads g.R.BitRegister.BITS c.args.from c.up.m c.args.size c.args.by c.args.count
    (length c.args.words.now) c.requires.size (omega arith) c.requires.source)

pub write_block-requires-clause-narrow : goal.write_block-requires-clause-narrow
write_block-requires-clause-narrow g c = narrow_words g.R.BitRegister.BITS c.args.size c.requires.size

pub write_block-requires-clause-lies : goal.write_block-requires-clause-lies
write_block-requires-clause-lies g c =
    rw c.up.invariant.moved.words (step_writes g.R.BitRegister.BITS c.args.low c.up.m c.args.size c.args.count
    (length c.args.words.now) c.requires.size (omega arith) c.requires.within)

pub up-preserved : goal.up-preserved
up-preserved g c =
    let reading = read_by g.R.BitRegister g.O.Positions.position in
    let b = reading.bits in
    let some : 0 < b = omega (arith, g.met.R.BitRegister.least_bits) in
    let m = c.up.m in
    let source = c.args.from * b + c.args.by in
    let target = c.args.low * b in
    let way = rw c.in-Up.is at c.requires.order in
    let here : (c.args.low + m * c.args.size) * b ≡ target + 64 * m =
    omega (arith, step_at b c.args.low m c.args.size 0 c.requires.size) in
    let there = step_at b c.args.from m c.args.size c.args.by c.requires.size in
    let moved = moves_up reading c.args.words.now c.up.words c.write_block.new.words source target (64 * m) 64
    (chunk_bit c.args.straight.direction c.read_block_from-block.result) way
    (λ i low. c.read_block_from-block.ensures.inside i low ∙ ap (λ p. entry reading c.up.words (p + i)) there)
    c.up.invariant.moved (rw here at c.write_block.ensures.bits) in
    let next : 64 * m + 64 ≡ 64 * (m + 1) = omega arith in
    record {
      moved = rw next at moved;
      few = λ number others. omega (
        arith,
        block_size b c.args.size some c.requires.size,
        c.write_block.ensures.few number others,
        c.up.invariant.few number others,
      );
    }

pub read_block_from-block-requires-in-down-clause-narrow : goal.read_block_from-block-requires-in-down-clause-narrow
read_block_from-block-requires-in-down-clause-narrow g c = narrow_words g.R.BitRegister.BITS c.args.size c.requires.size

pub read_block_from-block-requires-in-down-clause-lies : goal.read_block_from-block-requires-in-down-clause-lies
read_block_from-block-requires-in-down-clause-lies g c =
    rw c.down.invariant.moved.words (step_reads g.R.BitRegister.BITS c.args.from (c.down.m - 1) c.args.size c.args.by
    c.args.count (length c.args.words.now) c.requires.size (omega arith) c.requires.source)

pub write_block-requires-in-down-clause-narrow : goal.write_block-requires-in-down-clause-narrow
write_block-requires-in-down-clause-narrow g c = narrow_words g.R.BitRegister.BITS c.args.size c.requires.size

pub write_block-requires-in-down-clause-lies : goal.write_block-requires-in-down-clause-lies
write_block-requires-in-down-clause-lies g c =
    rw c.down.invariant.moved.words (step_writes g.R.BitRegister.BITS c.args.low (c.down.m - 1) c.args.size c.args.count
    (length c.args.words.now) c.requires.size (omega arith) c.requires.within)

pub down-preserved : goal.down-preserved
down-preserved g c =
    let reading = read_by g.R.BitRegister g.O.Positions.position in
    let b = reading.bits in
    let some : 0 < b = omega (arith, g.met.R.BitRegister.least_bits) in
    let m = c.down.m - 1 in
    let source = c.args.from * b + c.args.by in
    let target = c.args.low * b in
    let way = rw c.in-Down.is at c.requires.order in
    let here : (c.args.low + m * c.args.size) * b ≡ target + 64 * m =
    omega (arith, step_at b c.args.low m c.args.size 0 c.requires.size) in
    let there = step_at b c.args.from m c.args.size c.args.by c.requires.size in
    let from : source + 64 * c.down.m ≡ source + 64 * m + 64 = omega arith in
    let to : target + 64 * c.down.m ≡ target + 64 * m + 64 = omega arith in
    let had = rw (from, to) at c.down.invariant.moved in
    let moved = moves_down reading c.args.words.now c.down.words c.write_block-in-down.new.words (source + 64 * m)
    (target + 64 * m) (64 * (c.args.count - c.down.m)) 64
    (chunk_bit c.args.straight.direction c.read_block_from-block-in-down.result) (omega (arith, way))
    (λ i low. c.read_block_from-block-in-down.ensures.inside i low ∙ ap (λ p. entry reading c.down.words (p + i)) there) had
    (rw here at c.write_block-in-down.ensures.bits) in
    let next : 64 + 64 * (c.args.count - c.down.m) ≡ 64 * (c.args.count - m) = omega arith in
    let step : (m + 1) * c.args.size ≡ c.down.m * c.args.size = ap (λ n. n * c.args.size) (omega arith) in
    record {
      moved = rw next at moved;
      few = λ number others. omega (
        arith,
        step,
        block_size b c.args.size some c.requires.size,
        c.write_block-in-down.ensures.few number others,
        c.down.invariant.few number others,
      );
    }
