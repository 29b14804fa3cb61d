use Rattle.std.proofs.Common.{◌∙◌, ap, length, true}
use mir.Syntax.{w128}
use Rattle.std.proofs.lemmas.Int.{to_z-of_z}
use Rattle.bit_addressing_memory.specs.Memory.{piece}
use Rattle.bit_table_layout.proofs.ReadingLemmas.{length-field_bits}
use Rattle.bit_table_layout.specs.declared.layout.Rule.TheVariants.{Low}
use Rattle.bit_table_fields.proofs.CallerLemmas.{loaded_back, part_stored}
use Rattle.bit_table_tests.proofs.digit_callers.back_at.Goals as goal

pub returns-clause-same : goal.returns-clause-same
returns-clause-same g c =
    let n = c.args.width in
    let xs = g.V.Bits.bits c.args.view.now in
    let size = length-field_bits Low n _ in
    let held =
    c.part.ensures.bits
    ∙ ap (λ l. piece l c.args.at n) (c.as_bitslice.ensures.bits ∙ c.store_low_at.ensures.bits)
    ∙ part_stored xs _ c.args.at n size c.requires.within in
    to_z-of_z w128 c.load_low.result (record { sfits = c.load_low.type_inv })
    ∙ c.load_low.ensures.value
    ∙ loaded_back Low true n _ c.args.value _ _ c.requires.some c.requires.narrow (ap length held ∙ size) held
    (to_z-of_z w128 c.args.value c.ranges.value) c.requires.held
