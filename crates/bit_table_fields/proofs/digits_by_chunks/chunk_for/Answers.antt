use Rattle.std.proofs.Common.{ap, ◌∙◌}
use mir.Syntax.{w128}
use Rattle.std.proofs.lemmas.Int.{to_z-of_z}
use Rattle.bit_table_layout.specs.Digits.{has_digit}
use Rattle.bit_table_fields.proofs.ChunkLemmas.{chunk_holds}
use Rattle.bit_table_fields.proofs.digits_by_chunks.chunk_for.Goals as goal

pub returns : goal.returns
returns c =
    chunk_holds c.args.rule c.args.value c.args.width c.lowest_digits.result c.chunk_of.result c.requires.narrow
    (λ k small. c.lowest_digits.ensures k small
    ∙ ap (λ v. has_digit v k) (to_z-of_z w128 c.args.value c.ranges.value)) (rw c.way_of.ensures at c.chunk_of.ensures)
