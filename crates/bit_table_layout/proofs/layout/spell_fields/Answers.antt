use Rattle.std.proofs.Common.{arith, ◌≡◌, ◌≤◌, ◌<◌, ◌+◌, ◌++◌, true, false, length, [], ◌∷◌, take, Some, sym, ap, ◌∙◌}
use Rattle.std.proofs.lemmas.List.{take_more_set}
use Rattle.bit_table_layout.specs.LineWordsLeft.{words_left}
use Rattle.bit_table_layout.specs.Fields.{field_of}
use Rattle.bit_table_layout.specs.Steps.{name_number, has_number, new_words_fit}
use Rattle.bit_table_layout.proofs.FieldLemmas.{width-some}
use Rattle.bit_table_layout.proofs.LayoutLemmas.{new_words_fit-none, new_words_fit-more, new_words_fit-twice}
use Rattle.bit_table_layout.proofs.LayoutLemmas.{new_words_fit-wide}
use Rattle.bit_table_layout.proofs.layout.spell_fields.Goals as goal

pub loop-word-init : goal.loop-word-init
loop-word-init c =
    record {
      can_go_on = tt;
      ends = tt;
      few_bits = omega arith;
      few_names = omega arith;
      same_answer = new_words_fit-none 0 (words_left c.args.words);
    }

pub returns-then-width-gt-MAX_ROW_BITS : goal.returns-then-width-gt-MAX_ROW_BITS
returns-then-width-gt-MAX_ROW_BITS c =
    let numbers = take c.loop-word.count c.loop-word.numbers in
    let left = words_left c.loop-word.words in
    let rest = words_left c.next.new.self in
    let word = c.in-Some.word.now in
    let f = c.in-Some-parse.field in
    let spelled : field_of word ≡ Some f = sym c.parse.ensures.value ∙ c.in-Some-parse.is in
    let fails =
    new_words_fit-wide numbers c.loop-word.width left rest word f c.in-Some.ensures.steps spelled (omega arith) in
    sym fails ∙ c.loop-word.invariant.same_answer

pub returns-then-contains : goal.returns-then-contains
returns-then-contains c =
    let numbers = take c.loop-word.count c.loop-word.numbers in
    let number = c.name_number-number.result in
    let left = words_left c.loop-word.words in
    let rest = words_left c.next.new.self in
    let word = c.in-Some.word.now in
    let f = c.in-Some-parse.field in
    let spelled : field_of word ≡ Some f = sym c.parse.ensures.value ∙ c.in-Some-parse.is in
    let named : number ≡ name_number f.name = c.name_number-number.ensures ∙ ap name_number c.name.ensures in
    let again : has_number numbers number ≡ true = sym c.if-contains.ensures.value in
    let fails =
    new_words_fit-twice numbers c.loop-word.width number left rest word f c.in-Some.ensures.steps spelled named again in
    sym fails ∙ c.loop-word.invariant.same_answer

pub loop-word-preserved : goal.loop-word-preserved
loop-word-preserved c =
    let numbers = take c.loop-word.count c.loop-word.numbers in
    let number = c.name_number-number.result in
    let left = words_left c.loop-word.words in
    let rest = words_left c.next.new.self in
    let word = c.in-Some.word.now in
    let f = c.in-Some-parse.field in
    let spelled : field_of word ≡ Some f = sym c.parse.ensures.value ∙ c.in-Some-parse.is in
    let some : 1 ≤ f.width = width-some f c.in-Some-parse.ensures.lawful in
    let named : number ≡ name_number f.name = c.name_number-number.ensures ∙ ap name_number c.name.ensures in
    let new : has_number numbers number ≡ false = sym c.if-contains.ensures.value in
    let more =
    new_words_fit-more numbers c.loop-word.width number left rest word f c.in-Some.ensures.steps spelled named new in
    let place : c.loop-word.count < length c.loop-word.numbers = omega (arith, c.name_number-number.array_long) in
    let stored = take_more_set c.loop-word.numbers c.loop-word.count number place in
    let width = ap (λ w. new_words_fit (numbers ++ number ∷ []) (c.loop-word.width + w) rest) c.width.ensures in
    record {
      can_go_on = tt;
      ends = tt;
      few_bits = omega arith;
      few_names = omega arith;
      same_answer =
          ap (λ ns. new_words_fit ns (c.loop-word.width + c.width.result) rest) stored ∙ width ∙ more
          ∙ c.loop-word.invariant.same_answer;
    }
