use Rattle.std.proofs.Common.{arith, ◌≡◌, ◌<◌, length, refl}
use Rattle.bit_addressing_memory.proofs.MemoryLemmas.{piece_none}
use Rattle.bit_addressing_memory.proofs.WindowLemmas.{length-window}
use Rattle.bit_addressing_memory.specs.Memory.{memory, piece, read_by}
use Rattle.bit_addressing_memory.specs.Sweep.{sweep_words}
use Rattle.bit_table_rows.proofs.KeepLemmas.{fills_none, fills_part}
use Rattle.bit_table_rows.proofs.keep.keep_bits.Goals as goal

pub bits-init : goal.bits-init
bits-init g c =
    let reading = read_by g.T.BitRegister g.O.Positions.position in
    rw (piece_none (memory reading (sweep_words c.args.sweep.now)) c.args.from 0 refl)
    (fills_none reading c.args.sweep.now c.args.word c.args.first c.args.to)

pub keep_part-next-requires-clause-edge : goal.keep_part-next-requires-clause-edge
keep_part-next-requires-clause-edge g c =
    let reading = read_by g.T.BitRegister g.O.Positions.position in
    let words = sweep_words c.args.sweep.now in
    let size : length (piece (memory reading words) c.args.from c.bits.i) ≡ c.bits.i =
    length-window reading words c.args.from c.bits.i (omega arith) in
    rw size at (c.bits.invariant.edge c.requires.edge)

pub bits-preserved : goal.bits-preserved
bits-preserved g c =
    let reading = read_by g.T.BitRegister g.O.Positions.position in
    let some : 0 < reading.bits = omega (arith, g.met.T.BitRegister.least_bits) in
    fills_part reading c.args.sweep.now c.bits.sweep c.keep_part-next.new.sweep c.args.word c.bits.next
    c.keep_part-next.result c.args.first c.args.to c.args.from c.bits.i 1 some c.requires.order (omega arith)
    c.bits.invariant c.keep_part-next.ensures

pub returns : goal.returns
returns g c =
    let all : c.bits.i ≡ c.args.len = omega arith in
    rw (← all) c.bits.invariant
