-- A line in a session: its answer, and the state that it leaves.
use Rattle.std.proofs.Common.{◌≡◌, ℕ, true, false, List, [], ◌∷◌, ◌++◌, Some, None, sym, ap, ◌∙◌, refl}
use Rattle.bit_table_commands.specs.Tables.{TableShape, State, start, state_with}
use Rattle.bit_table_commands.specs.Causes.{line_cause}
use Rattle.bit_table_script.specs.Scripts.{has_word, answer_by, after_by, answer, after, answers}

-- the answers to a line and those that follow
answers-cons : (s new : State) (line text : List ℕ) → text ≡ answer s line → new ≡ after s line
    → (rest : List (List ℕ)) → answers s (line ∷ rest) ≡ text ++ answers new rest
answers-cons s new line text e h rest =
    ap (λ t. t ++ answers (after s line) rest) (sym e) ∙ ap (λ n. text ++ answers n rest) (sym h)

-- a line without a word
pub answers-blank : (s new : State) (line text : List ℕ) → has_word line ≡ false → text ≡ [] → new ≡ s
    → (rest : List (List ℕ)) → answers s (line ∷ rest) ≡ text ++ answers new rest
unfolding answer after
answers-blank s new line text blank e h = answers-cons s new line text (e ∙ rw blank refl) (h ∙ rw blank refl)

-- a line with a word, where there is no layout yet
pub answers-begun : (new : State) (line text : List ℕ) → has_word line ≡ true
    → text ≡ answer_by (line_cause None line) None line → new ≡ after_by (line_cause None line) start line
    → (rest : List (List ℕ)) → answers start (line ∷ rest) ≡ text ++ answers new rest
unfolding answer after
answers-begun new line text some e h = answers-cons start new line text (e ∙ rw some refl) (h ∙ rw some refl)

-- a line with a word in a table
pub answers-carried : (t : TableShape) (new : State) (line text : List ℕ) → has_word line ≡ true
    → text ≡ answer_by (line_cause (Some t) line) (Some t) line
    → new ≡ after_by (line_cause (Some t) line) (state_with t) line
    → (rest : List (List ℕ)) → answers (state_with t) (line ∷ rest) ≡ text ++ answers new rest
unfolding answer after
answers-carried t new line text some e h =
    answers-cons (state_with t) new line text (e ∙ rw some refl) (h ∙ rw some refl)
