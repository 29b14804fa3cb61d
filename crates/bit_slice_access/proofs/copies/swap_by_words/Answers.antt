use Rattle.std.proofs.Common.{ap, ◌∙◌}
use Rattle.std.specs.Bool.{xor}
use Rattle.bit_slice_access.proofs.SwapLemmas.{first_twice, second_twice}
use Rattle.bit_slice_views_mut.specs.Combined.{combined}
use Rattle.bit_slice_access.proofs.copies.swap_by_words.Goals as goal

pub returns-clause-bits : goal.returns-clause-bits
returns-clause-bits g c =
    let xs = g.V.Bits.bits c.args.view.now in
    let ys = g.W.Bits.bits c.args.other.now in
    let more = g.V.Bits.bits c.xor_bits.new.self in
    c.xor_bits-3.ensures.bits
    ∙ ap (combined xor more) (c.xor_bits-2.ensures.bits ∙ first_twice xs ys more c.requires c.xor_bits.ensures.bits)
    ∙ second_twice xs ys more c.requires c.xor_bits.ensures.bits

pub returns-clause-other_bits : goal.returns-clause-other_bits
returns-clause-other_bits g c =
    c.xor_bits-2.ensures.bits
    ∙ first_twice (g.V.Bits.bits c.args.view.now) (g.W.Bits.bits c.args.other.now) (g.V.Bits.bits c.xor_bits.new.self)
    c.requires c.xor_bits.ensures.bits
