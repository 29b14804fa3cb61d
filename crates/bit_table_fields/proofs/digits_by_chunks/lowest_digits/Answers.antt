use Rattle.std.proofs.Common.{◌%◌, ◌^◌, ap, of_z, ◌∙◌}
use mir.Syntax.{w128}
use Rattle.std.proofs.lemmas.Int.{to_z-of_z}
use Rattle.bit_table_fields.proofs.ChunkLemmas.{lowest_digit}
use Rattle.bit_table_fields.proofs.digits_by_chunks.lowest_digits.Goals as goal

pub returns : goal.returns
returns c =
    lowest_digit c.args.value (c.cast_unsigned.result % 2 ^ 64) c.ranges.value
    (ap (λ n. n % 2 ^ 64) (c.cast_unsigned.ensures ∙ ap (of_z w128) (to_z-of_z w128 c.args.value c.ranges.value)))
