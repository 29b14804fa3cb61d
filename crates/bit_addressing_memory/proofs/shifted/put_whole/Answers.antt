use Rattle.bit_addressing_memory.proofs.Common.{arith, length, ◌+◌, read_by}
use Rattle.bit_addressing_memory.specs.Sweep.{sweep_words}
use Rattle.bit_addressing_memory.proofs.Puts.{puts_one}
use Rattle.bit_addressing_memory.proofs.ShiftedWords.{less_words, whole_word}
use Rattle.bit_addressing_memory.proofs.shifted.put_whole.Goals as goal

pub cut-whole-requires-clause-next : goal.cut-whole-requires-clause-next
cut-whole-requires-clause-next g c shift =
    let run = c.requires.run in
    less_words (c.args.word + 1) (length (sweep_words c.args.sweep.now)) g.R.BitRegister.BITS
    (omega (arith, run.first, run.begins, run.ends, c.requires.can.source_lies.within))

pub returns : goal.returns
returns g c =
    let task = c.args.task in
    let reading = read_by g.R.BitRegister g.O.Positions.position in
    puts_one reading 3 c.args.sweep.now c.cut-whole.new.sweep c.put.new.self task.source task.target task.len
    c.args.k c.cut-whole.result (omega (arith, g.met.R.BitRegister.least_bits)) c.requires.can
    (record {
      digits = whole_word reading (sweep_words c.args.sweep.now) c.args.k task.source task.target task.len
          c.args.word c.args.by c.cut-whole.result c.requires.run c.cut-whole.ensures.digits;
      reads = omega (arith, c.cut-whole.ensures.reads);
      same = c.cut-whole.ensures.same;
      lender = c.cut-whole.ensures.lender;
    })
    c.put.ensures.words c.put.ensures.edge c.put.ensures.writes c.put.ensures.way c.put.ensures.reads
    c.put.ensures.lender
