use Rattle.std.proofs.Common.{◌≡◌, [], ◌∷◌, Option, Some, None, Result, Err, refl, sym, ◌∙◌}
use Rattle.bit_table_layout.specs.declared.layout.LayoutError.{LayoutError}
use Rattle.bit_table_layout.specs.declared.layout.LayoutError.TheVariants.{Refused, Memory}
use Rattle.bit_table_layout.specs.LineWords.{words}
use Rattle.bit_table_layout.specs.LineWordsLeft.{words_left}
use Rattle.bit_table_layout.specs.Layouts.{layout_of, rule_of}
use Rattle.bit_table_layout.proofs.LayoutLemmas.{layout_of-words, layout_of-no_rule, layout_of-no_fit}
use Rattle.bit_table_layout.proofs.LayoutLemmas.{MakesLayout-from_fit, MakesLayout-of}
use Rattle.bit_table_layout.proofs.layout.Layout.parse.Goals as goal

memory_is_not_refused : {T : Type 0} → ◌≡◌ {A = Result T LayoutError} (Err Memory) (Err Refused) → ⊥
memory_is_not_refused e = cc

some_is_not_none : {A : Type 0} (o : Option A) (x : A) → o ≡ Some x → o ≡ None → ⊥
some_is_not_none o x some none = cc

pub returns-in_default-clause-refused : goal.returns-in_default-clause-refused
returns-in_default-clause-refused c =
    let line = c.args.line.now in
    let none : layout_of line ≡ None =
    layout_of-words line [] (sym c.new-words.ensures ∙ c.in_default.ensures.steps.0) in
    (λ _. none, λ _. refl)

pub returns-in_default-rule_of-clause-refused : goal.returns-in_default-rule_of-clause-refused
returns-in_default-rule_of-clause-refused c =
    let line = c.args.line.now in
    let first = c.in-Some.first.now in
    let rest = words_left c.next.new.self in
    let is : words line ≡ first ∷ rest = sym c.new-words.ensures ∙ c.in-Some.ensures.steps in
    let none = layout_of-no_rule line first rest is (sym c.rule_of.ensures ∙ c.in_default-rule_of.is) in
    (λ _. none, λ _. refl)

pub returns-then-not-spell_fields-clause-refused : goal.returns-then-not-spell_fields-clause-refused
returns-then-not-spell_fields-clause-refused c =
    let line = c.args.line.now in
    let first = c.in-Some.first.now in
    let rest = words_left c.next.new.self in
    let rule = c.in-Some-rule_of.rule in
    let is : words line ≡ first ∷ rest = sym c.new-words.ensures ∙ c.in-Some.ensures.steps in
    let named : rule_of first ≡ Some rule = sym c.rule_of.ensures ∙ c.in-Some-rule_of.is in
    let none = layout_of-no_fit line first rest rule is named (sym c.if-not-spell_fields.ensures) in
    (λ _. none, λ _. refl)

pub returns-in_default-fields_of-clause-refused : goal.returns-in_default-fields_of-clause-refused
returns-in_default-fields_of-clause-refused c =
    let line = c.args.line.now in
    let first = c.in-Some.first.now in
    let rest = words_left c.next.new.self in
    let rule = c.in-Some-rule_of.rule in
    let is : words line ≡ first ∷ rest = sym c.new-words.ensures ∙ c.in-Some.ensures.steps in
    let named : rule_of first ≡ Some rule = sym c.rule_of.ensures ∙ c.in-Some-rule_of.is in
    let made = MakesLayout-from_fit line first rest rule is named (sym c.if-not-spell_fields.ensures) in
    let some : layout_of line ≡ Some (record { rule = rule; fields = made.0 }) = made.1.layout in
    (λ refused. absurd (memory_is_not_refused refused), λ none. absurd (some_is_not_none _ _ some none))

pub invariant_of-result : goal.invariant_of-result
invariant_of-result c =
    let line = c.args.line.now in
    let first = c.in-Some.first.now in
    let rest = words_left c.next.new.self in
    let rule = c.in-Some-rule_of.rule in
    let is : words line ≡ first ∷ rest = sym c.new-words.ensures ∙ c.in-Some.ensures.steps in
    let named : rule_of first ≡ Some rule = sym c.rule_of.ensures ∙ c.in-Some-rule_of.is in
    let made =
    MakesLayout-of line first rest rule c.in-Ok.fields.items is named (sym c.if-not-spell_fields.ensures)
    c.in-Ok.ensures in
    made.lawful

pub returns-clause-ok : goal.returns-clause-ok
returns-clause-ok c =
    let line = c.args.line.now in
    let first = c.in-Some.first.now in
    let rest = words_left c.next.new.self in
    let rule = c.in-Some-rule_of.rule in
    let is : words line ≡ first ∷ rest = sym c.new-words.ensures ∙ c.in-Some.ensures.steps in
    let named : rule_of first ≡ Some rule = sym c.rule_of.ensures ∙ c.in-Some-rule_of.is in
    let made =
    MakesLayout-of line first rest rule c.in-Ok.fields.items is named (sym c.if-not-spell_fields.ensures)
    c.in-Ok.ensures in
    made.layout

pub returns-clause-refused : goal.returns-clause-refused
returns-clause-refused c =
    let line = c.args.line.now in
    let first = c.in-Some.first.now in
    let rest = words_left c.next.new.self in
    let rule = c.in-Some-rule_of.rule in
    let is : words line ≡ first ∷ rest = sym c.new-words.ensures ∙ c.in-Some.ensures.steps in
    let named : rule_of first ≡ Some rule = sym c.rule_of.ensures ∙ c.in-Some-rule_of.is in
    let made =
    MakesLayout-of line first rest rule c.in-Ok.fields.items is named (sym c.if-not-spell_fields.ensures)
    c.in-Ok.ensures in
    let some = made.layout in
    (λ refused. absurd cc, λ none. absurd cc)
