use Rattle.bit_addressing_memory.proofs.Common.{◌≡◌, ◌+◌, ◌*◌, ◌/◌, ◌%◌, ◌<◌, refl, arith, read_by}
use Rattle.bit_addressing_memory.specs.declared.direction.Direction.TheVariants.{Ascending}
use Rattle.bit_slice_words.proofs.BlockOnes.{chunk_at, ones_and_more, ones_fit}
use Rattle.bit_slice_words.proofs.count.ones_of_blocks.Goals as goal

pub loop-k-preserved : goal.loop-k-preserved
loop-k-preserved g c =
    let reading = read_by g.R.BitRegister g.O.Positions.position in
    let some : 0 < reading.bits = omega (arith, g.met.R.BitRegister.least_bits) in
    ones_and_more reading c.args.words.now 0 (64 * c.loop-k.k) 64 (64 * (c.loop-k.k + 1)) Ascending
    c.read_nth_chunk-block.result c.loop-k.ones _ (omega arith) some (omega arith) (omega arith)
    c.read_nth_chunk-block.type_inv refl c.read_nth_chunk-block.ensures c.loop-k.invariant

pub overflow_add-ones : goal.overflow_add-ones
overflow_add-ones g c =
    let reading = read_by g.R.BitRegister g.O.Positions.position in
    let most = ones_fit reading c.args.words.now 0 (64 * (c.loop-k.k + 1)) _ (omega arith) (loop-k-preserved g c) in
    omega arith

pub returns-then-rest-gt0 : goal.returns-then-rest-gt0
returns-then-rest-gt0 g c =
    let reading = read_by g.R.BitRegister g.O.Positions.position in
    let some : 0 < reading.bits = omega (arith, g.met.R.BitRegister.least_bits) in
    let whole : c.loop-k.k ≡ c.args.len / 64 = omega arith in
    ones_and_more reading c.args.words.now 0 (64 * (c.args.len / 64)) (c.args.len % 64) c.args.len
    Ascending c.read_bits-block.result c.loop-k.ones _ (omega arith) some (omega arith) (omega arith)
    c.read_bits-block.type_inv refl
    (chunk_at reading c.args.words.now (64 * (c.args.len / 64)) (0 + 64 * (c.args.len / 64)) (c.args.len % 64) Ascending
    c.read_bits-block.result (omega arith) c.read_bits-block.ensures) (rw whole at c.loop-k.invariant)

pub overflow_add-ones-then-rest-gt0 : goal.overflow_add-ones-then-rest-gt0
overflow_add-ones-then-rest-gt0 g c =
    let reading = read_by g.R.BitRegister g.O.Positions.position in
    let most = ones_fit reading c.args.words.now 0 c.args.len _ c.requires.lies.within (returns-then-rest-gt0 g c) in
    omega arith
