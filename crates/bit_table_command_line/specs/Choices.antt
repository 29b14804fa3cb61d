-- What is answered to a command line.
use Rattle.std.specs.Prelude.{◌≡◌, ◌≢◌, ⊤, false, List, [], codes}
use Rattle.std.specs.Borrow.{Bor}
use Rattle.clap.specs.Walk.{Text, first_of, texts}
use Rattle.clap.specs.Simple.{App, matches_of}
use Rattle.clap.specs.Takes.{takes}
use Rattle.clap.specs.Faults.{fault_of}
use Rattle.clap.specs.declared.error.kind.ErrorKind.{ErrorKind}
use Rattle.clap.specs.declared.error.kind.ErrorKind.TheVariants.{DisplayHelp, OutOfMemory}
use Rattle.bit_table_command_line.specs.declared.choice.Choice.{Choice}
use Rattle.bit_table_command_line.specs.declared.choice.Choice.TheVariants.{Run, Help, Bad, NoMemory}
use Rattle.bit_table_command_line.specs.Storages.{word_names, order_names, word_of, order_of}
use Rattle.bit_table_command_line.specs.Options.{program}

-- a run is of words in which clap finds no fault, over the storage that their matches hold, and words that clap takes are
-- no other answer's
abbrev pub Answers : App → List Text → Choice → Type 0
Answers a words (Run word order) = (fault_of a words ≡ [])
    × (word ≡ word_of (first_of (codes "word") (matches_of a words)))
    × (order ≡ order_of (first_of (codes "order") (matches_of a words)))
Answers a words (Help text) = takes a words ≡ false
Answers a words (Bad text) = takes a words ≡ false
Answers a words NoMemory = ⊤

-- the answer to the words of a command line, by the program's options; their names lie in some lists
pub record ChoosesFor (line : List Text) (choice : Choice) : Type 0 where
  pub words : Bor (List (Bor Text))
  pub orders : Bor (List (Bor Text))
  pub are_words : texts words.now ≡ word_names
  pub are_orders : texts orders.now ≡ order_names
  pub answers : Answers (program words orders) line choice

-- what is answered to an error of this kind
abbrev pub Refuses : ErrorKind → Choice → Type 0
Refuses kind (Run word order) = ⊥
Refuses kind (Help text) = kind ≡ DisplayHelp
Refuses kind (Bad text) = (kind ≢ DisplayHelp) × (kind ≢ OutOfMemory)
Refuses kind NoMemory = ⊤
