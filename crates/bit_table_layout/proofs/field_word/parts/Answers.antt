use Rattle.std.proofs.Common.{rules, ◌≡◌}
use Rattle.std.proofs.lemmas.Iterator.{YieldsList-from_slice}
use Rattle.std.proofs.lemmas.Iterator.Search.{position_from_yields_List}
use borrow.Author.Tests.{tests}
use Rattle.bit_table_layout.proofs.PlaceLemmas.{position_in}
use Rattle.bit_table_layout.proofs.FieldLemmas.{is_colon, parts-Some, parts-None}
use Rattle.bit_table_layout.proofs.field_word.parts.Goals as goal

pub returns-in-Some : goal.returns-in-Some
returns-in-Some c =
    let word = c.args.word.now in
    let found : c.position.result ≡ position_in is_colon word =
    position_from_yields_List is_colon _ _ c.position.result c.position.ensures.ran (YieldsList-from_slice word cc)
    (λ x b q k. search (rules, tests)) in
    let both = parts-Some word c.position.result c.in-Some.colon found c.in-Some.is in
    record { name = both.0; kind = both.1 }

pub returns-in-None : goal.returns-in-None
returns-in-None c =
    let word = c.args.word.now in
    let found : c.position.result ≡ position_in is_colon word =
    position_from_yields_List is_colon _ _ c.position.result c.position.ensures.ran (YieldsList-from_slice word cc)
    (λ x b q k. search (rules, tests)) in
    let both = parts-None word c.position.result found c.in-None.is in
    record { name = both.0; kind = both.1 }
