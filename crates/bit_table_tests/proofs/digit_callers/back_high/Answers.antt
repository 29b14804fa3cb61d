use Rattle.std.proofs.Common.{length, ap, ◌∙◌}
use mir.Syntax.{w128}
use Rattle.std.proofs.lemmas.Int.{to_z-of_z}
use Rattle.bit_table_layout.specs.declared.layout.Rule.TheVariants.{High}
use Rattle.bit_table_fields.proofs.CallerLemmas.{loaded_back}
use Rattle.bit_table_tests.proofs.digit_callers.back_high.Goals as goal

pub returns-clause-same : goal.returns-clause-same
returns-clause-same g c =
    to_z-of_z w128 c.load_high.result (record { sfits = c.load_high.type_inv })
    ∙ c.load_high.ensures.value
    ∙ loaded_back High c.args.signed (length (g.V.Bits.bits c.args.view.now)) _ c.args.value _ _ c.requires.some
    c.requires.narrow (ap length c.as_bitslice.ensures.bits ∙ c.store_high.ensures.len)
    (c.as_bitslice.ensures.bits ∙ c.store_high.ensures.bits)
    (to_z-of_z w128 c.args.value c.ranges.value) c.requires.held
