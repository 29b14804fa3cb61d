use Rattle.bit_addressing_memory.proofs.Common.{◌≡◌, ◌+◌, ◌-◌, ◌*◌, ◌<◌, ap, arith, read_by}
use Rattle.std.proofs.Math.Nat.{suc-mul}
use Rattle.bit_addressing_memory.proofs.PlaceLemmas.{begins_behind, begins_before}
use Rattle.bit_addressing_memory.proofs.TransferLemmas.{in_order, touched_last, write_more}
use Rattle.bit_addressing_memory.proofs.transfer.write_counted.Goals as goal

pub loop-k-preserved : goal.loop-k-preserved
loop-k-preserved g c =
    let b = g.R.BitRegister.BITS in
    let bits = c.bits_of-bits.result in
    let k = c.loop-k.k in
    let place = c.args.place in
    let count = c.args.count in
    let some : 0 < b = omega (arith, g.met.R.BitRegister.least_bits) in
    let begins : place < k * b = begins_behind b bits place k c.bits_of-bits.ensures some (omega arith) in
    let next : (k + 1) * b ≡ k * b + b = omega (arith, suc-mul k b) in
    let ends : k * b < place + count =
    begins_before b bits (place + count) k c.bits_of-bits.ensures some (omega arith) (omega arith) in
    let row : k * bits ≡ k * b = ap (λ n. k * n) c.bits_of-bits.ensures in
    record {
      bits =
          write_more (read_by g.R.BitRegister g.O.Positions.position) c.args.words.now c.loop-k.words
          c.put_part-in-loop-k.new.words place count k b (k * bits) bits 0 c.min-upto.result (k * bits - place)
          c.args.direction c.args.chunk c.lowered-rest.result c.bits_of-bits.ensures row (omega arith) ends
          c.requires.few (omega arith) c.min-upto.ensures (omega arith) c.lowered-rest.ensures c.loop-k.invariant.bits
          c.put_part-in-loop-k.ensures;
      writes = omega (arith, c.loop-k.invariant.writes);
    }

pub returns-clause-writes : goal.returns-clause-writes
returns-clause-writes g c =
    let bits = c.bits_of-bits.result in
    let some : 0 < bits = omega (arith, g.met.R.BitRegister.least_bits, c.bits_of-bits.ensures) in
    let order = in_order bits c.args.place c.args.count some c.requires.some in
    let all = touched_last g.R.BitRegister.BITS bits c.args.place c.args.count c.bits_of-bits.ensures c.requires.some in
    omega (arith, order, all, c.loop-k.invariant.writes)
