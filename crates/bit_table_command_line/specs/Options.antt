-- The program's options, as clap reads them.
use Rattle.std.specs.Prelude.{true, List, [], ◌∷◌, Some, codes}
use Rattle.std.specs.Borrow.{Bor}
use Rattle.clap.specs.Walk.{Rule, Text}
use Rattle.clap.specs.Simple.{App, new_app, new_rule, on_top, with_rule}
use Rattle.clap.specs.declared.builder.value_parser.ValueParser.TheVariants as parser

-- `--word`, with one of these names, `u64` where it is not given
abbrev pub word_option : Bor (List (Bor Text)) → Rule
word_option names = record (new_rule (codes "word")) {
  long = Some (codes "word");
  value_names = 1;
  defaults = codes "u64" ∷ [];
  parser = Some (parser.Names names);
}

-- `--order`, with one of these names, `lsb0` where it is not given
abbrev pub order_option : Bor (List (Bor Text)) → Rule
order_option names = record (new_rule (codes "order")) {
  long = Some (codes "order");
  value_names = 1;
  defaults = codes "lsb0" ∷ [];
  parser = Some (parser.Names names);
}

-- both, and no name of the program among the words
abbrev pub program : Bor (List (Bor Text)) → Bor (List (Bor Text)) → App
program words orders =
    with_rule (with_rule (on_top (λ s. record s { no_binary_name = true }) (new_app (codes "bit-table")))
    (word_option words)) (order_option orders)
