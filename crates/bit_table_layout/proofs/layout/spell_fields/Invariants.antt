use Rattle.std.proofs.Common.{◌≡◌, ◌≤◌, take}
use Rattle.bit_table_layout.specs.declared.layout.TheConstants.{MAX_ROW_BITS}
use Rattle.bit_table_layout.specs.LineWordsLeft.{words_left}
use Rattle.bit_table_layout.specs.Steps.{words_fit, new_words_fit}
use Rattle.bit_table_layout.proofs.layout.spell_fields.Given as goal

abbrev pub invariant-loop-word : goal.invariant-loop-word
invariant-loop-word l =
    record {
      can_go_on : (goal.iterator-loop-word).can_next l.words;
      ends : (goal.iterator-loop-word).is_finite l.words;
      few_bits : l.width ≤ MAX_ROW_BITS;
      few_names : l.count ≤ l.width;
      same_answer : new_words_fit (take l.count l.numbers) l.width (words_left l.words)
          ≡ words_fit 0 (words_left l.fn.words);
    }
