use Rattle.std.proofs.Common.{◌%◌, ◌-◌, sym, ap, ◌∙◌, arith}
use Rattle.std.specs.Prelude.{◌==◌}
use Rattle.std.proofs.lemmas.Nat.{one_shl}
use Rattle.bit_table_layout.specs.Steps.{is_cut}
use Rattle.bit_table_layout.proofs.LoadLemmas.{cut_low, cut_high}
use Rattle.bit_table_layout.proofs.image.is_cut.Goals as goal

pub returns-in-Low : goal.returns-in-Low
returns-in-Low c =
    sym (cut_low c.args.byte c.args.used c.requires.few)
    ∙ ap (λ rule. is_cut rule c.args.used c.args.byte) (sym c.in-Low.is)

pub returns-in-High : goal.returns-in-High
returns-in-High c =
    let pad = 8 - c.args.used in
    ap (λ n. c.args.byte % n == 0) (one_shl pad 64 (omega arith))
    ∙ sym (cut_high c.args.byte c.args.used c.requires.few (omega arith))
    ∙ ap (λ rule. is_cut rule c.args.used c.args.byte) (sym c.in-High.is)
