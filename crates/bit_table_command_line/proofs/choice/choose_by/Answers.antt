use Rattle.std.proofs.Common.{◌≡◌, ap, sym, ◌∙◌, map, codes}
use Rattle.clap.specs.Walk.{first_of, rows_of}
use Rattle.clap.specs.Matches.{found_of}
use Rattle.clap.specs.Simple.{App, app_of, is_simple, matches_of}
use Rattle.clap.specs.Faults.{fault_of, is_simple_and_free}
use Rattle.clap.specs.Takes.{takes}
use Rattle.clap.proofs.WalkLemmas.{first_value-rows}
use Rattle.bit_table_command_line.specs.Options.{program}
use Rattle.bit_table_command_line.specs.Storages.{word_of, order_of}
use Rattle.bit_table_command_line.proofs.ChoiceLemmas.{refused_answers}
use Rattle.bit_table_command_line.proofs.choice.choose_by.Goals as goal

pub returns-in-Ok-try_get_matches_from : goal.returns-in-Ok-try_get_matches_from
returns-in-Ok-try_get_matches_from g c =
    let line = map g.S.AsStr.text c.args.words.now in
    let options_are : app_of c.in-Ok.command ≡ program c.args.named c.args.ordered = c.in-Ok.ensures in
    let found = found_of c.in-Ok-try_get_matches_from.matches in
    let rows_are : rows_of found ≡ matches_of (program c.args.named c.args.ordered) line =
    (c.in-Ok-try_get_matches_from.ensures.matches (ap is_simple options_are)).0
    ∙ ap (λ (a : App). matches_of a line) options_are in
    record {
      words = c.args.named;
      orders = c.args.ordered;
      are_words = c.requires.words;
      are_orders = c.requires.orders;
      answers = (
        sym (ap (λ (a : App). fault_of a line) options_are)
            ∙ c.in-Ok-try_get_matches_from.ensures.kinds (ap is_simple_and_free options_are),
        c.word_named.ensures
            ∙ ap word_of (c.get_str.ensures ∙ first_value-rows found (codes "word") ∙ ap (first_of (codes "word")) rows_are),
        c.order_named.ensures ∙ ap order_of (c.get_str-in-Ok-try_get_matches_from.ensures
            ∙ first_value-rows found (codes "order") ∙ ap (first_of (codes "order")) rows_are),
      );
    }

pub returns-in-Err-try_get_matches_from : goal.returns-in-Err-try_get_matches_from
returns-in-Err-try_get_matches_from g c =
    let line = map g.S.AsStr.text c.args.words.now in
    let options_are : app_of c.in-Ok.command ≡ program c.args.named c.args.ordered = c.in-Ok.ensures in
    record {
      words = c.args.named;
      orders = c.args.ordered;
      are_words = c.requires.words;
      are_orders = c.requires.orders;
      answers = refused_answers (program c.args.named c.args.ordered) line _ c.refused.result c.refused.ensures
          (λ e. c.in-Err-try_get_matches_from.ensures.passes (ap (λ (a : App). takes a line) options_are ∙ e));
    }
