use Rattle.std.proofs.Common.{length, ap, ◌∙◌}
use mir.Syntax.{w128}
use Rattle.std.proofs.lemmas.Int.{to_z-of_z}
use Rattle.bit_table_layout.specs.declared.layout.Rule.TheVariants.{Low}
use Rattle.bit_table_fields.proofs.CallerLemmas.{loaded_back}
use Rattle.bit_table_tests.proofs.digit_callers.back_low.Goals as goal

pub returns-clause-same : goal.returns-clause-same
returns-clause-same g c =
    to_z-of_z w128 c.load_low.result (record { sfits = c.load_low.type_inv })
    ∙ c.load_low.ensures.value
    ∙ loaded_back Low c.args.signed (length (g.V.Bits.bits c.args.view.now)) _ c.args.value _ _ c.requires.some
    c.requires.narrow (ap length c.as_bitslice.ensures.bits ∙ c.store_low.ensures.len)
    (c.as_bitslice.ensures.bits ∙ c.store_low.ensures.bits)
    (to_z-of_z w128 c.args.value c.ranges.value) c.requires.held
