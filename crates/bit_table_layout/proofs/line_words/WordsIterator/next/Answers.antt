use Rattle.std.proofs.Common.{rules, ◌≡◌, ◌-◌, length, take, drop, refl}
use Rattle.std.proofs.lemmas.Iterator.{YieldsList-from_slice}
use Rattle.std.proofs.lemmas.Iterator.Search.{position_from_yields_List}
use borrow.Author.Tests.{tests}
use Rattle.bit_table_layout.specs.LineWords.{is_separator}
use Rattle.bit_table_layout.proofs.PlaceLemmas.{position_in}
use Rattle.bit_table_layout.proofs.WordLemmas.{is_word_byte, words-none, words-next, fewer-behind}
use Rattle.bit_table_layout.proofs.line_words.WordsIterator.next.Goals as goal

pub returns-in_default-clause-steps : goal.returns-in_default-clause-steps
returns-in_default-clause-steps c =
    let line = c.args.self.now.rest.now in
    let found : c.position.result ≡ position_in is_word_byte line =
    position_from_yields_List is_word_byte _ _ c.position.result c.position.ensures.ran (YieldsList-from_slice line cc)
    (λ x b q k. search (rules, tests)) in
    (words-none line c.position.result found c.in_default.is, refl)

pub returns-clause-steps : goal.returns-clause-steps
returns-clause-steps c =
    let line = c.args.self.now.rest.now in
    let from = take (length line - c.in-Some.start) (drop c.in-Some.start line) in
    let found : c.position.result ≡ position_in is_word_byte line =
    position_from_yields_List is_word_byte _ _ c.position.result c.position.ensures.ran (YieldsList-from_slice line cc)
    (λ x b q k. search (rules, tests)) in
    let ended : c.position-2.result ≡ position_in is_separator from =
    position_from_yields_List is_separator _ _ c.position-2.result c.position-2.ensures.ran
    (YieldsList-from_slice from cc)
    (λ x b q k. search (rules, tests)) in
    words-next line from c.position.result c.position-2.result c.in-Some.start c.unwrap_or-end.result found
    c.in-Some.is refl ended c.unwrap_or-end.ensures

pub returns-clause-goes : goal.returns-clause-goes
returns-clause-goes c =
    record { on = λ _. (tt, tt, fewer-behind _ _ _ (returns-clause-steps c)); keeps = tt; rests = λ _. tt }
