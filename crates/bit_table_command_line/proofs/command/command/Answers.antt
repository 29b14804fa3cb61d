use Rattle.std.proofs.Common.{◌≡◌, true, false, Some, [], ◌∷◌, Bool, List, Bor, ap, ap₂, ◌∙◌, codes}
use Rattle.std.proofs.lemmas.Result.{IfOk-weaker}
use Rattle.clap.specs.Walk.{Rule, Text, rule_of}
use Rattle.clap.specs.Simple.{App, Shape, app_of, app_of_fields, new_app, on_top, with_rule}
use Rattle.clap.specs.declared.builder.arg.Arg.{Arg}
use Rattle.clap.specs.declared.builder.value_parser.ValueParser.TheVariants as parser
use Rattle.bit_table_command_line.specs.Options.{word_option, order_option}
use Rattle.bit_table_command_line.proofs.command.command.Goals as goal

-- what the calls on an argument make of what clap reads of it
abbrev with_long : Text → Rule → Rule
with_long name r = record r { long = Some name }

abbrev with_value_name : Rule → Rule
with_value_name r = record r { value_names = 1 }

abbrev with_names : Bor (List (Bor Text)) → Rule → Rule
with_names names r = record r { parser = Some (parser.Names names) }

abbrev with_default : Text → Rule → Rule
with_default value r = record r { defaults = value ∷ [] }

abbrev is_global : Arg → Bool
is_global a = a.global

-- the words do not begin with the program's name
abbrev unnamed : App → App
unnamed = on_top (λ (s : Shape). record s { no_binary_name = true })

pub returns : goal.returns
returns c =
    let words_are : c.value_parser.result.value_parser ≡ Some (parser.Names c.args.words) =
    c.value_parser.ensures.given.1 ∙ ap Some c.value_parser.ensures.given.2 in
    let orders_are : c.value_parser-2.result.value_parser ≡ Some (parser.Names c.args.orders) =
    c.value_parser-2.ensures.given.1 ∙ ap Some c.value_parser-2.ensures.given.2 in
    let word_is : rule_of c.help-word.result ≡ word_option c.args.words =
    ap rule_of c.help-word.ensures ∙ ap rule_of c.default_value.ensures
    ∙ ap (with_default (codes "u64")) (ap rule_of c.value_parser.ensures.others
    ∙ ap (λ p. record (rule_of c.value_name.result) { parser = p }) words_are
    ∙ ap (with_names c.args.words) (ap rule_of c.value_name.ensures
    ∙ ap with_value_name (ap rule_of c.long.ensures ∙ ap (with_long (codes "word")) c.new.ensures.rule))) in
    let order_is : rule_of c.help-order.result ≡ order_option c.args.orders =
    ap rule_of c.help-order.ensures ∙ ap rule_of c.default_value-2.ensures
    ∙ ap (with_default (codes "lsb0")) (ap rule_of c.value_parser-2.ensures.others
    ∙ ap (λ p. record (rule_of c.value_name-2.result) { parser = p }) orders_are
    ∙ ap (with_names c.args.orders) (ap rule_of c.value_name-2.ensures
    ∙ ap with_value_name (ap rule_of c.long-2.ensures ∙ ap (with_long (codes "order")) c.new-2.ensures.rule))) in
    let word_alone : c.help-word.result.global ≡ false =
    ap is_global c.help-word.ensures ∙ ap is_global c.default_value.ensures ∙ ap is_global c.value_parser.ensures.others
    ∙ ap is_global c.value_name.ensures ∙ ap is_global c.long.ensures ∙ c.new.ensures.optional.1 in
    let order_alone : c.help-order.result.global ≡ false =
    ap is_global c.help-order.ensures ∙ ap is_global c.default_value-2.ensures
    ∙ ap is_global c.value_parser-2.ensures.others ∙ ap is_global c.value_name-2.ensures
    ∙ ap is_global c.long-2.ensures ∙ c.new-2.ensures.optional.1 in
    let start_is : app_of c.after_help.result ≡ unnamed (new_app (codes "bit-table")) =
    ap app_of_fields c.after_help.ensures ∙ ap app_of_fields c.about.ensures ∙ ap app_of_fields c.no_binary_name.ensures
    ∙ ap unnamed c.new-3.ensures.app in
    let first_is : app_of c.in_ok-arg.field-0
    ≡ with_rule (unnamed (new_app (codes "bit-table"))) (word_option c.args.words) =
    c.in_ok-arg.ensures.shape word_alone ∙ ap₂ with_rule start_is word_is in
    IfOk-weaker c.arg-2.result _ _ (λ command added. added.shape order_alone ∙ ap₂ with_rule first_is order_is)
    c.arg-2.ensures
