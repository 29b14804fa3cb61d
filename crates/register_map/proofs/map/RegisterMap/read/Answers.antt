use Rattle.std.proofs.Common.{refl}
use Rattle.register_map.proofs.RegisterLemmas.{number_read}
use Rattle.register_map.proofs.map.RegisterMap.read.Goals as goal

pub returns-clause-value : goal.returns-clause-value
returns-clause-value g c =
    let part = c.in_ok-place.ensures in
    number_read c.args.self.now c.args.memory.now c.args.device c.in_ok-place.place c.in_ok-place.width c.number_at.result
    part.map c.requires.memory (part.ok.0 refl) part.place part.width c.number_at.type_inv c.number_at.ensures
