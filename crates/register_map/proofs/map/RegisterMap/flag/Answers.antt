use Rattle.std.proofs.Common.{◌<◌, ◌+◌, sym, ap, ◌∙◌, refl, arith}
use Rattle.bit_addressing.specs.Memory.{entry}
use Rattle.register_map.specs.Words.{words}
use Rattle.register_map.specs.Registers.{width_of}
use Rattle.register_map.proofs.RegisterLemmas.{bit_of}
use Rattle.register_map.proofs.map.RegisterMap.flag.Goals as goal

pub overflow_add-place : goal.overflow_add-place
overflow_add-place g c =
    let part = c.in_ok-place.ensures in
    omega (arith, part.map.counted c.args.device (part.ok.0 refl), part.place, part.width)

pub returns-clause-value : goal.returns-clause-value
returns-clause-value g c =
    let part = c.in_ok-place.ensures in
    let low : c.args.flag < width_of c.args.self.now c.args.device = omega (arith, part.width) in
    c.read_entry.ensures.value
    ∙ ap (λ place. entry words c.args.memory.now (place + c.args.flag)) part.place
    ∙ sym (bit_of c.args.self.now c.args.memory.now c.args.device c.args.flag low)
