use Rattle.std.proofs.Common.{length, reverse, arith, ap, ◌∙◌}
use Rattle.std.proofs.lemmas.List.{length-reverse}
use Rattle.bit_addressing_memory.specs.Memory.{read_by}
use Rattle.bit_containers_box.specs.Box.{box_visible}
use Rattle.bit_containers_box.proofs.LendLemmas.{has_words}
use Rattle.bit_containers_tests.proofs.boxes_lent.turn_visible.Goals as goal

pub returns : goal.returns
returns g c =
    let b = c.args.bits.now in
    let reading = read_by g.T.BitRegister g.O.Positions.position in
    let turned = c.turn_all.ensures ∙ ap reverse c.as_raw_mut_slice.ensures.words in
    rw (← turned) (has_words reading b _ (omega (arith, g.met.T.BitRegister.least_bits)) b.fits
    (ap length turned ∙ length-reverse (box_visible reading b)))
