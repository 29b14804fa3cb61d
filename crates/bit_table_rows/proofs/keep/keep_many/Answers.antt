use Rattle.std.proofs.Common.{arith, ◌≡◌, ◌+◌, ◌%◌, ◌<◌, length, refl}
use Rattle.std.proofs.lemmas.Nat.{mod_below}
use Rattle.bit_addressing_memory.proofs.MemoryLemmas.{piece_none}
use Rattle.bit_addressing_memory.proofs.WindowLemmas.{length-window}
use Rattle.bit_addressing_memory.specs.Memory.{memory, piece, read_by}
use Rattle.bit_addressing_memory.specs.Sweep.{sweep_words}
use Rattle.bit_table_rows.proofs.KeepLemmas.{fills_none, fills_part}
use Rattle.bit_table_rows.proofs.keep.keep_many.Goals as goal

pub parts-init : goal.parts-init
parts-init g c =
    let reading = read_by g.T.BitRegister g.O.Positions.position in
    record {
      fills = rw (piece_none (memory reading (sweep_words c.args.sweep.now)) c.args.from 0 refl)
          (fills_none reading c.args.sweep.now c.args.word c.args.first c.args.to);
      inside = omega arith;
    }

pub keep_part-next-requires-clause-edge : goal.keep_part-next-requires-clause-edge
keep_part-next-requires-clause-edge g c =
    let reading = read_by g.T.BitRegister g.O.Positions.position in
    let words = sweep_words c.args.sweep.now in
    let size : length (piece (memory reading words) c.args.from c.parts.done) ≡ c.parts.done =
    length-window reading words c.args.from c.parts.done (omega (arith, c.parts.invariant.inside)) in
    rw size at (c.parts.invariant.fills.edge c.requires.edge)

pub keep_part-next-requires-clause-some : goal.keep_part-next-requires-clause-some
keep_part-next-requires-clause-some g c =
    let some : 0 < g.T.BitRegister.BITS = omega (arith, g.met.T.BitRegister.least_bits) in
    let size = c.bits_of-bits.ensures in
    let low : (c.args.to + c.parts.done) % c.bits_of-bits.result < c.bits_of-bits.result =
    mod_below (c.args.to + c.parts.done) c.bits_of-bits.result (omega arith) in
    omega arith

pub keep_part-next-requires-clause-fits : goal.keep_part-next-requires-clause-fits
keep_part-next-requires-clause-fits g c =
    let some : 0 < g.T.BitRegister.BITS = omega (arith, g.met.T.BitRegister.least_bits) in
    let size : c.bits_of-bits.result ≡ g.T.BitRegister.BITS = c.bits_of-bits.ensures in
    let few = rw size at c.min-count.ensures in
    let low = mod_below (c.args.to + c.parts.done) g.T.BitRegister.BITS some in
    omega arith

pub parts-preserved : goal.parts-preserved
parts-preserved g c =
    let reading = read_by g.T.BitRegister g.O.Positions.position in
    let some : 0 < reading.bits = omega (arith, g.met.T.BitRegister.least_bits) in
    record {
      fills = fills_part reading c.args.sweep.now c.parts.sweep c.keep_part-next.new.sweep c.args.word c.parts.next
          c.keep_part-next.result c.args.first c.args.to c.args.from c.parts.done c.min-count.result some
          c.requires.order (omega arith) c.parts.invariant.fills c.keep_part-next.ensures;
      inside = omega arith;
    }

pub returns : goal.returns
returns g c =
    let all : c.parts.done ≡ c.args.len = omega arith in
    rw (← all) c.parts.invariant.fills
