use Rattle.std.proofs.Common.{◌≡◌, ◌*◌, false, replicate, ap, ◌∙◌, rules, arith}
use Rattle.bit_addressing_memory.specs.Memory.{memory, read_by}
use Rattle.bit_slice_views.specs.View.{view_bits}
use Rattle.bit_containers_array.specs.ZeroLaws.{zero_memory}
use Rattle.bit_containers_array.proofs.MadeLemmas.{made_words}
use Rattle.bit_containers_array.proofs.convert.BitArrayTryFromBitSliceStore.try_from.Goals as goal

-- zeros over which the list was copied
pub returns : goal.returns
returns g c =
    let reading = read_by g.A.Store.BitRegister g.O.Positions.position in
    let zeros = g.A.BitViewSized.words c.default-array.result.words in
    let none : memory reading zeros ≡ replicate (g.A.BitViewSized.COUNT * g.A.Store.BitRegister.BITS) false =
    zero_memory g.A.Store.BitRegister.BITS g.A.Store.BitRegister.number g.O.Positions.position zeros
    g.A.BitViewSized.COUNT g.A.Store.BitRegister.ZERO g.met.A.Store.BitRegister.least_bits
    (ap g.A.BitViewSized.words c.default-array.ensures.0 ∙ g.met.A.BitViewSized.zero_words)
    g.met.A.Store.BitRegister.zero_is in
    let all = made_words {X = Unit {0}} reading tt zeros (g.A.BitViewSized.words c.clone_from_bitslice.new.self.words)
    (view_bits reading c.args.view) (g.A.BitViewSized.COUNT * g.A.Store.BitRegister.BITS) none
    c.clone_from_bitslice.ensures.bits c.clone_from_bitslice.ensures.frame in
    search (rules, arith, all)
