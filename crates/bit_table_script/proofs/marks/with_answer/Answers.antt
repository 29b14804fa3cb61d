use Rattle.std.proofs.Common.{◌*◌, ◌%◌, ◌^◌, bit_or, ap, ◌∙◌}
use Rattle.bit_table_fields.proofs.WindowLemmas.{byte_is}
use Rattle.bit_table_script.proofs.MarkedLemmas.{one_told}
use Rattle.bit_table_script.proofs.marks.with_answer.Goals as goal

pub returns : goal.returns
returns c told is had =
    one_told told c.args.index c.args.answers _ c.args.passes c.requires is
    (ap (λ n. bit_or c.args.answers (n * 2 ^ c.args.index % 2 ^ 64)) (c.from.ensures ∙ byte_is c.args.passes)) had
