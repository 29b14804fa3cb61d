-- The answers to lines go on as the lines do.
use Rattle.std.specs.Prelude.{ℕ, List, [], ◌∷◌, ◌++◌, refl}
use Rattle.std.proofs.Common.{sym, ap, ◌∙◌, append_assoc}
use Rattle.bit_table_lines.specs.Lines.{IsBeginning}
use Rattle.bit_table_commands.specs.Tables.{State}
use Rattle.bit_table_script.specs.Scripts.{answer, after, answers}

-- the answers to some lines are a beginning of the answers to those lines and more
pub answers-goes_on : (s : State) (front back : List (List ℕ))
    → IsBeginning (answers s front) (answers s (front ++ back))
answers-goes_on s [] back = record { rest = answers s back; joined = refl }
answers-goes_on s (line ∷ front) back =
    let h = answers-goes_on (after s line) front back in
    record {
      rest = h.rest;
      joined = ap (λ l. answer s line ++ l) h.joined
          ∙ sym (append_assoc (answer s line) (answers (after s line) front) h.rest);
    }
