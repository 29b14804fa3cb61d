use Rattle.std.proofs.Common.{◌≡◌, ◌-◌, length, arith}
use Rattle.bit_addressing_memory.specs.Memory.{memory, read_by}
use Rattle.bit_addressing_memory.proofs.MemoryLemmas.{length-memory, length-piece}
use Rattle.bit_containers_vector.specs.Spliced.{gone_bits}
use Rattle.bit_containers_vector.proofs.splice.SpliceExactSizeIterator.len.Goals as goal

pub returns-clause-exact : goal.returns-clause-exact
returns-clause-exact g c can =
    let d = c.args.self.now in
    let reading = read_by g.T.BitRegister g.O.Positions.position in
    let size : length (gone_bits reading d) ≡ d.back - d.front =
    length-piece (memory reading d.vector.now.words.items) d.front (d.back - d.front)
    (omega (arith, can.0, can.1, length-memory reading d.vector.now.words.items)) in
    omega (arith, size, c.saturating_sub.ensures)
