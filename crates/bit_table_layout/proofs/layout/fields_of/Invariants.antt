use Rattle.std.proofs.Common.{◌≡◌, ◌++◌}
use Rattle.std.specs.Option.{option_map}
use Rattle.bit_table_layout.specs.Layouts.{fields_of}
use Rattle.bit_table_layout.specs.LineWordsLeft.{words_left}
use Rattle.bit_table_layout.proofs.layout.fields_of.Given as goal

abbrev pub invariant-loop-word : goal.invariant-loop-word
invariant-loop-word l =
    record {
      can_go_on : (goal.iterator-loop-word).can_next l.words;
      ends : (goal.iterator-loop-word).is_finite l.words;
      same_fields : option_map (λ fs. l.fields.items ++ fs) (fields_of (words_left l.words))
          ≡ fields_of (words_left l.fn.words);
    }
