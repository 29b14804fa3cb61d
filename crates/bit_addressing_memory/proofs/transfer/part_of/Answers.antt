use Rattle.bit_addressing_memory.proofs.Common.{read_by}
use Rattle.bit_addressing_memory.proofs.TransferLemmas.{not_straight, part_upto}
use Rattle.bit_addressing_memory.proofs.transfer.part_of.Goals as goal

pub returns-in-Some : goal.returns-in-Some
returns-in-Some g c =
    rw (c.requires.own.goes c.in-Some.straight.direction c.in-Some.straight.goes)
    (part_upto (read_by g.R.BitRegister g.O.Positions.position) c.args.word c.args.from c.args.upto g.R.BitRegister.BITS
    c.in-Some.straight.direction c.part.result c.requires.within c.part.ensures)

pub returns-in-None : goal.returns-in-None
returns-in-None g c =
    let none = not_straight g.R.BitRegister.BITS g.O.Positions.position (rw c.in-None.is at c.find.ensures) in
    rw (c.requires.own.other none) c.spread_part.ensures
