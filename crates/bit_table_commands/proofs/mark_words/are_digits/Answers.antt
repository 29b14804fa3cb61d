use Rattle.std.proofs.Common.{rules, ◌≡◌, ◌∙◌, ◌%◌, ◌==◌, ◌&&◌, true, length, sym, ap}
use Rattle.std.specs.List.{list_all}
use Rattle.std.specs.Char.{is_ascii_hexdigit}
use Rattle.std.proofs.lemmas.Bool.{eq-eqb}
use Rattle.std.proofs.lemmas.Iterator.{YieldsList-from_slice}
use Rattle.std.proofs.lemmas.Iterator.Search.{all_from_yields_List}
use borrow.Author.Tests.{tests}
use Rattle.bit_table_commands.proofs.mark_words.are_digits.Goals as goal

pub returns-then-word-eq0 : goal.returns-then-word-eq0
returns-then-word-eq0 c =
    let w = c.args.word.now in
    let even : (length w % 2 == 0) ≡ true = eq-eqb (length w % 2) 0 c.if-word-eq0.true in
    let all : c.all.result ≡ list_all is_ascii_hexdigit w =
    all_from_yields_List is_ascii_hexdigit _ _ c.all.result c.all.ensures.ran (YieldsList-from_slice w cc)
    (λ x b q k. search (rules, tests)) in
    all ∙ ap (λ b. b && list_all is_ascii_hexdigit w) (sym even)
