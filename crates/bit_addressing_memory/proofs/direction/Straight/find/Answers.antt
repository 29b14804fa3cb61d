use Rattle.bit_addressing_memory.proofs.direction.Straight.find.Goals as goal

pub new-requires : goal.new-requires
new-requires g c = (c.direction_of.ensures c.in-Some.direction).0 c.in-Some.is

pub returns-in-None : goal.returns-in-None
returns-in-None g c direction goes =
    let told = (c.direction_of.ensures direction).1 goes in
    absurd (cc)
