use Rattle.std.proofs.Common.{rules, ◌≡◌, ◌∙◌}
use Rattle.std.specs.List.{list_all}
use Rattle.std.specs.Char.{is_ascii_digit}
use Rattle.std.proofs.lemmas.Iterator.{YieldsList-from_slice}
use Rattle.std.proofs.lemmas.Iterator.Search.{all_from_yields_List}
use borrow.Author.Tests.{tests}
use Rattle.bit_table_layout.proofs.NumeralLemmas.{is_number-from_bytes}
use Rattle.bit_table_layout.proofs.numerals.is_number.Goals as goal

pub returns-then-not-is_empty : goal.returns-then-not-is_empty
returns-then-not-is_empty c =
    let w = c.args.word.now in
    let all : c.all.result ≡ list_all is_ascii_digit w =
    all_from_yields_List is_ascii_digit _ _ c.all.result c.all.ensures.ran (YieldsList-from_slice w cc)
    (λ x b q k. search (rules, tests)) in
    all ∙ is_number-from_bytes w c.if-not-is_empty.ensures
