-- What is answered where memory runs out, `out_of_memory`, and what an error that is no want of memory says of the words,
-- `refused_answers`.
use Rattle.std.proofs.Common.{◌≡◌, ◌∙◌, Bool, true, false, List, map, refl, sym}
use Rattle.std.specs.Borrow.{Bor}
use Rattle.clap.specs.Walk.{Text}
use Rattle.clap.specs.Simple.{App}
use Rattle.clap.specs.Takes.{takes}
use Rattle.clap.specs.declared.error.kind.ErrorKind.{ErrorKind}
use Rattle.clap.specs.declared.error.kind.ErrorKind.TheVariants.{DisplayHelp, OutOfMemory}
use Rattle.bit_table_command_line.specs.declared.choice.Choice.{Choice}
use Rattle.bit_table_command_line.specs.declared.choice.Choice.TheVariants.{Run, Help, Bad, NoMemory}
use Rattle.bit_table_command_line.specs.Choices.{Answers, ChoosesFor, Refuses}
use Rattle.bit_table_command_line.specs.Storages.{word_names, order_names}

not_taken : (a : App) (line : List Text) → (takes a line ≡ true → ⊥) → takes a line ≡ false
not_taken a line never = go (takes a line) refl
  where
    go : (taken : Bool) → takes a line ≡ taken → takes a line ≡ false
    go true e = absurd (never e)
    go false e = e

-- words that clap takes come to no other error
pub refused_answers : (a : App) (line : List Text) (kind : ErrorKind) (choice : Choice) → Refuses kind choice
    → (takes a line ≡ true → kind ≡ OutOfMemory) → Answers a line choice
refused_answers a line kind (Run word order) h passes = absurd h
refused_answers a line kind (Help text) h passes = not_taken a line (λ e.
    let same : DisplayHelp ≡ OutOfMemory = sym h ∙ passes e in
    cc)
refused_answers a line kind (Bad text) h passes = not_taken a line (λ e. h.1 (passes e))
refused_answers a line kind NoMemory h passes = tt

-- some list of names, lent
abbrev lent : List Text → Bor (List (Bor Text))
lent names = record { ref_ptr = (0, 0); now = map (λ name. record { ref_ptr = (0, 0); now = name }) names }

pub out_of_memory : (line : List Text) → ChoosesFor line NoMemory
out_of_memory line = record {
  words = lent word_names;
  orders = lent order_names;
  are_words = refl;
  are_orders = refl;
  answers = tt;
}
