use Rattle.std.proofs.Common.{◌≡◌, ◌+◌, ◌<◌, ◌*◌, length, arith, sym, ap, ◌∙◌, refl}
use Rattle.bit_slice.specs.Memory.{read_by}
use Rattle.std.proofs.lemmas.List.{length-replicate}
use Rattle.bit_slice.proofs.WindowLemmas.{length-window}
use Rattle.bit_containers_vector.specs.Count.{words_for}
use Rattle.bit_containers_vector.proofs.CountLemmas.{words_hold}
use Rattle.bit_containers_vector.proofs.MadeLemmas.{holds_copy}
use Rattle.bit_containers_vector.proofs.WordLemmas.{length-bits}
use Rattle.bit_containers_vector.proofs.ZeroLemmas.{zero_digit}
use Rattle.bit_containers.proofs.to_bits.with_head.Goals as goal

pub returns : goal.returns
returns g c =
    let reading = read_by g.T.BitRegister g.O.Positions.position in
    let some : 0 < g.T.BitRegister.BITS = omega (arith, g.met.T.BitRegister.least_bits) in
    let parts = c.parts-source in
    let made = c.from_place in
    let view = parts.ensures in
    let count : length c.copy.new.words.items ≡ words_for g.T.BitRegister.BITS (c.args.head + parts.result.2) =
    c.copy.ensures.copied.words ∙ ap length c.in_ok-held.ensures
    ∙ length-replicate (words_for g.T.BitRegister.BITS (c.args.head + parts.result.2)) g.T.BitRegister.ZERO in
    let product = ap (λ k. k * g.T.BitRegister.BITS) count in
    let size : made.result.len ≡ parts.result.2 =
    sym (length-bits reading made.result made.result.fits)
    ∙ ap length made.ensures.bits
    ∙ length-window reading c.copy.new.words.items c.args.head parts.result.2
    (omega (arith, product, words_hold g.T.BitRegister.BITS (c.args.head + parts.result.2) some)) in
    holds_copy reading reading g.T.BitRegister.ZERO made.result c.in_ok-held.held.items parts.result.0.now parts.result.1
    c.args.head parts.result.2 c.args.head _ some some
    (zero_digit g.T.BitRegister.number g.O.Positions.position g.T.BitRegister.ZERO g.met.T.BitRegister.zero_is)
    c.in_ok-held.ensures made.ensures.head size view.bits view.fits
    (rw (made.ensures.words) c.copy.ensures.copied) refl
