use Rattle.std.proofs.Common.{ap, ◌∙◌}
use Rattle.std.proofs.Math.Nat.{mod-eq_of_lt}
use Rattle.bit_addressing_memory.specs.Memory.{memory, piece, read_by}
use Rattle.bit_containers_box.proofs.BoxLemmas.{alone_as}
use Rattle.bit_containers_box.proofs.boxed.BitBox.clone.Goals as goal

pub returns : goal.returns
returns g c =
    let b = c.args.self.now in
    let reading = read_by g.T.BitRegister g.O.Positions.position in
    let shown = c.from_place-bits.ensures in
    alone_as reading c.from_bitslice.result _ b.head _ _
    (shown.head ∙ mod-eq_of_lt b.inside)
    (shown.bits ∙ ap (λ ws. piece (memory reading ws) b.head b.len) c.as_slice.ensures.value) c.from_bitslice.ensures
