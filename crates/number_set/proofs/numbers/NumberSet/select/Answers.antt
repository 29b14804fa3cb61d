use Rattle.std.proofs.Common.{◌≡◌, refl, arith}
use Rattle.std.proofs.lemmas.Bool.{false≢true}
use Rattle.std.specs.FinSet.{len}
use Rattle.number_set.specs.Held.{words}
use Rattle.bit_containers.specs.Vector.{vec_bits}
use Rattle.bit_containers.specs.View.{view_bits}
use Rattle.number_set.proofs.HeldLemmas.{len_is, selected_is}
use Rattle.number_set.proofs.numbers.NumberSet.select.Goals as goal

pub returns-then-index-count_ones-clause-variant : goal.returns-then-index-count_ones-clause-variant
returns-then-index-count_ones-clause-variant c =
    let all : c.count_ones.result ≡ len c.args.self.now =
    len_is (vec_bits words c.self.inside.bits) c.args.self.now c.self.view_is
    (view_bits words c.as_bitslice-bits.result) c.as_bitslice-bits.ensures.bits c.count_ones.result c.count_ones.ensures in
    (λ yes. omega (arith, all, c.if-index-count_ones.true), λ low. refl)

pub returns-then-index-count_ones-clause-value : goal.returns-then-index-count_ones-clause-value
returns-then-index-count_ones-clause-value c =
    selected_is (vec_bits words c.self.inside.bits) c.args.self.now c.self.view_is
    (view_bits words c.as_bitslice-bits.result) c.as_bitslice-bits.ensures.bits c.one_at.result c.args.index
    c.one_at.ensures.one c.one_at.ensures.before

pub returns-else-index-count_ones-clause-variant : goal.returns-else-index-count_ones-clause-variant
returns-else-index-count_ones-clause-variant c =
    let all : c.count_ones.result ≡ len c.args.self.now =
    len_is (vec_bits words c.self.inside.bits) c.args.self.now c.self.view_is
    (view_bits words c.as_bitslice-bits.result) c.as_bitslice-bits.ensures.bits c.count_ones.result c.count_ones.ensures in
    (λ no. absurd (false≢true no), λ low. absurd (omega (arith, all, c.if-index-count_ones.false)))
