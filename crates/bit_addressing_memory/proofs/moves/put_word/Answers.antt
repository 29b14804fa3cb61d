use Rattle.bit_addressing_memory.proofs.Common.{◌≡◌, ◌+◌, ◌-◌, ◌*◌, ◌<◌, ◌≤◌, ap, ◌∙◌, arith, entry, read_by}
use Rattle.bit_addressing_memory.specs.Sweep.{reads_of, sweep_words}
use Rattle.bit_addressing_memory.proofs.Gathers.{few_reads, gathered_of}
use Rattle.bit_addressing_memory.proofs.Puts.{can_word, puts_one}
use Rattle.bit_addressing_memory.proofs.Sweeps.{one_read, reads_again}
use Rattle.bit_addressing_memory.proofs.moves.put_word.Goals as goal

pub returns : goal.returns
returns g c =
    let task = c.args.task in
    let reading = read_by g.R.BitRegister g.O.Positions.position in
    let s = c.args.sweep.now in
    let t = c.taken-word.new.sweep in
    let words = sweep_words s in
    let k = c.args.k in
    let from = c.part_of-from.result.0 in
    let upto = c.part_of-from.result.1 in
    let part = c.part_of-from.ensures in
    let place = task.source + (k * c.bits_of.result + from - task.target) in
    let some : 0 < reading.bits = omega (arith, g.met.R.BitRegister.least_bits) in
    let row : k * c.bits_of.result ≡ k * reading.bits = ap (λ n. k * n) c.bits_of.ensures in
    let digits =
    gathered_of reading words k task.source task.target task.len from upto c.read-own.result c.taken-word.result
    (λ i. entry reading words (place + (i - from))) (can_word reading.bits s task.source task.target task.len k
    c.requires) c.read-own.ensures.value part
    (λ i high low.
    let there : place + (i - from) ≡ task.source + (k * reading.bits + i - task.target) =
    omega (arith, row, part.from_is, high) in
    ap (entry reading words) there) (rw c.read-own.ensures.same.words at c.taken-word.ensures.stored) in
    let most : upto - from ≤ reading.bits = omega (arith, part.most) in
    puts_one reading _ s t c.put.new.self task.source task.target task.len k c.taken-word.result some c.requires
    (record {
      digits = digits;
      reads = few_reads c.args.straight reading.bits place (upto - from) (reads_of s) (reads_of c.read-own.new.self)
          (reads_of t) some most (one_read _ _ c.read-own.ensures.reads) c.taken-word.ensures.reads
          c.taken-word.ensures.straight;
      same = reads_again s c.read-own.new.self t c.read-own.ensures.same c.taken-word.ensures.same;
      lender = c.taken-word.ensures.lender ∙ c.read-own.ensures.lender;
    })
    c.put.ensures.words c.put.ensures.edge c.put.ensures.writes c.put.ensures.way c.put.ensures.reads
    c.put.ensures.lender
