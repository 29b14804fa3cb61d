use Rattle.bit_addressing_memory.proofs.Common.{arith, read_by}
use Rattle.bit_addressing_memory.proofs.Puts.{puts_one}
use Rattle.bit_addressing_memory.proofs.shifted.put_end.Goals as goal

pub returns-then-near : goal.returns-then-near
returns-then-near g c =
    let task = c.args.task in
    puts_one (read_by g.R.BitRegister g.O.Positions.position) 3 c.args.sweep.now c.near_word-word.new.sweep c.put.new.self
    task.source task.target task.len c.args.k c.near_word-word.result
    (omega (arith, g.met.R.BitRegister.least_bits)) c.requires.can c.near_word-word.ensures c.put.ensures.words
    c.put.ensures.edge c.put.ensures.writes c.put.ensures.way c.put.ensures.reads c.put.ensures.lender
