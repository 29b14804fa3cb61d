use Rattle.bit_addressing_memory.proofs.Common.{◌+◌, ◌-◌, ◌*◌, ◌≤◌, ap, ◌∙◌, arith, entry, read_by}
use Rattle.bit_addressing_memory.specs.Sweep.{reads_of, sweep_words}
use Rattle.bit_addressing_memory.specs.Ways.{by_way}
use Rattle.bit_addressing_memory.proofs.Gathers.{gathered_of}
use Rattle.bit_addressing_memory.proofs.Puts.{can_word}
use Rattle.bit_addressing_memory.proofs.Sweeps.{one_read, reads_again}
use Rattle.bit_addressing_memory.proofs.WayLemmas.{near_place}
use Rattle.bit_addressing_memory.proofs.one_place.near_word.Goals as goal

pub returns : goal.returns
returns g c =
    let task = c.args.task in
    let reading = read_by g.R.BitRegister g.O.Positions.position in
    let s = c.args.sweep.now in
    let words = sweep_words s in
    let k = c.args.k in
    let part = c.part_of-from.ensures in
    record {
      digits =
          gathered_of reading words k task.source task.target task.len c.part_of-from.result.0
          c.part_of-from.result.1 c.read-own.result c.stored.result (reading.digit c.bits_beside-beside.result)
          (can_word reading.bits s task.source task.target task.len k c.requires.can) c.read-own.ensures.value part
          (λ i high low.
          let inside : task.target ≤ k * reading.bits + i = omega (arith, part.from_is, high) in
          c.bits_beside-beside.ensures.digits i high low
          ∙ ap (λ ws. entry reading ws (by_way c.args.way (k * reading.bits + i + 1) (k * reading.bits + i - 1)))
          c.read-own.ensures.same.words
          ∙ ap (entry reading words) (near_place c.args.way task.source task.target (k * reading.bits + i)
          c.requires.near inside))
          (rw (c.new_unchecked-head.ensures, c.new_unchecked-tail.ensures) at c.stored.ensures);
      reads = omega (
        arith,
        one_read (reads_of s) (reads_of c.read-own.new.self) c.read-own.ensures.reads,
        c.bits_beside-beside.ensures.reads,
      );
      same = reads_again s c.read-own.new.self c.bits_beside-beside.new.sweep c.read-own.ensures.same
          c.bits_beside-beside.ensures.same;
      lender = c.bits_beside-beside.ensures.lender ∙ c.read-own.ensures.lender;
    }
