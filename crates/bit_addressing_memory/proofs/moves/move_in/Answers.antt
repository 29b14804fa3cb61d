use Rattle.bit_addressing_memory.proofs.Common.{arith, read_by}
use Rattle.bit_addressing_memory.proofs.Sweeps.{moved_all}
use Rattle.bit_addressing_memory.proofs.moves.move_in.Goals as goal

pub returns-in-Some-clause-moved : goal.returns-in-Some-clause-moved
returns-in-Some-clause-moved g c =
    moved_all (read_by g.R.BitRegister g.O.Positions.position) c.args.sweep.now.words.now
    c.put_straight.new.sweep.words.now c.args.source c.args.target c.args.len c.bits_of-bits.result
    (omega (arith, g.met.R.BitRegister.least_bits)) (omega arith) c.bits_of-bits.ensures c.put_straight.ensures.swept

pub returns-in-None-clause-moved : goal.returns-in-None-clause-moved
returns-in-None-clause-moved g c =
    moved_all (read_by g.R.BitRegister g.O.Positions.position) c.args.sweep.now.words.now
    c.put_gathered.new.sweep.words.now c.args.source c.args.target c.args.len c.bits_of-bits.result
    (omega (arith, g.met.R.BitRegister.least_bits)) (omega arith) c.bits_of-bits.ensures c.put_gathered.ensures.swept
