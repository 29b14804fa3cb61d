use Rattle.std.proofs.Common.{◌≡◌, ℕ, ◌%◌, ◌<◌, Bool, length, ap, ◌∙◌, arith, rules}
use Rattle.bit_addressing_memory.specs.Memory.{read_by}
use Rattle.bit_slice_views_mut.specs.ViewMut.{lent_bits}
use Rattle.bits_c.specs.Windows.{number_bits}
use Rattle.bits_c.proofs.NumberLemmas.{lowest_first}
use Rattle.bits_c.proofs.WroteLemmas.{window_wrote}
use Rattle.bits_c.proofs.numbers.put_lowest_first.Goals as goal

pub returns : goal.returns
returns g c =
    let reading = read_by g.T.BitRegister g.O.Positions.position in
    let b : ℕ = g.T.BitRegister.BITS in
    let some : 0 < b = omega (arith, g.met.T.BitRegister.least_bits) in
    let low : Bool = g.O.FieldOrder.LOW_FIRST in
    let z = g.M.Integral.whole c.args.value in
    let v = c.from_place_mut-view.result in
    let w = c.store_le.new.self in
    let made = c.from_place_mut-view.ensures in
    let done = c.store_le.ensures in
    let k : ℕ = length (lent_bits reading v) in
    let bits : lent_bits reading w ≡ number_bits low c.args.len z =
    done.bits ∙ lowest_first low b (v.head % b) k z c.requires.low some ∙ ap (λ n. number_bits low n z) made.len in
    let there =
    window_wrote reading v.words.ghost_name w.words.ghost_name c.args.words.now v.words.now w.words.now c.args.start
    c.args.len v.head v.len w.head w.len (number_bits low c.args.len z) some c.requires.lies.1 made.words made.place
    made.len w.fits done.len done.frame bits in
    search (rules, there)
