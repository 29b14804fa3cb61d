-- The words that an iterator over words has left.
use Rattle.std.specs.Prelude.{ℕ, List}
use Rattle.bit_table_layout.specs.declared.line_words.Words.{Words as LineWords}
use Rattle.bit_table_layout.specs.LineWords.{words}

-- the words that are left
abbrev pub words_left : LineWords → List (List ℕ)
words_left w = words w.rest.now
