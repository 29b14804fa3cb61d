-- A piece of a text is fed byte by byte.
use Rattle.std.proofs.Common.{◌≡◌, ◌≢◌, ℕ, ◌+◌, ◌-◌, ◌<◌, ◌≤◌, ◌==◌, false, List, [], ◌∷◌, ◌++◌}
use Rattle.std.proofs.Common.{length, take, drop, get_or}
use Rattle.std.proofs.Common.{Option, refl, sym, ap, ◌∙◌, append_assoc, subst, arith, rules, take-append-drop}
use Rattle.std.proofs.lemmas.Grind.{common_steps}
use Rattle.std.specs.Prelude.{Result, Ok, Err, OnErr, IsErrOf}
use Rattle.bit_table_lines.specs.Lines.{IsBeginning, whole_lines}
use Rattle.bit_table_lines.specs.Streams.{AppendsPart}
use Rattle.bit_table_lines.specs.Going.{Going, HasHeld}
use Rattle.bit_table_lines.proofs.GoingLemmas.{going_end, going_more, cut_in_held, cut_before, stopped}

abbrev Answers : Type 0
Answers = List (List ℕ) → List ℕ

-- what holds at an error holds at this one
pub at_error : {T E P : Type 0} (r : Result T E) (e : E) → OnErr r P → IsErrOf r e → P
at_error (Ok x) e h k = absurd cc
at_error (Err y) e h k = h

piece_step : (text piece : List ℕ) (i b : ℕ) → i < length piece → get_or piece i 0 ≡ b
    → text ++ take (i + 1) piece ≡ (text ++ take i piece) ++ b ∷ []
piece_step text piece i b h e =
    let step : take (i + 1) piece ≡ take i piece ++ get_or piece i 0 ∷ [] = grind (arith, common_steps) in
    ap (λ l. text ++ l) (step ∙ ap (λ n. take i piece ++ n ∷ []) e) ∙ sym (append_assoc text (take i piece) (b ∷ []))

piece_rest : (text piece : List ℕ) (i : ℕ) → (text ++ take i piece) ++ drop i piece ≡ text ++ piece
piece_rest text piece i =
    append_assoc text (take i piece) (drop i piece) ∙ ap (λ l. text ++ l) (take-append-drop i piece)

-- what of a piece goes on a line: from one byte up to before another
abbrev pub run : List ℕ → ℕ → ℕ → List ℕ
run piece from at = take (at - from) (drop from piece)

pub run_none : (line piece : List ℕ) (from at : ℕ) → line ≡ [] → from ≡ at → [] ≡ line ++ run piece from at
run_none line piece from at none same =
    let zero : at - from ≡ 0 = omega arith in
    sym (ap (λ l. l ++ run piece from at) none ∙ ap (λ n. take n (drop from piece)) zero)

pub run_more : (line piece : List ℕ) (from at : ℕ) → from ≤ at → at < length piece
    → line ++ run piece from (at + 1) ≡ (line ++ run piece from at) ++ get_or piece at 0 ∷ []
run_more line piece from at order inside =
    let next : at + 1 - from ≡ (at - from) + 1 = omega arith in
    let there : from + (at - from) ≡ at = omega arith in
    let step : take ((at - from) + 1) (drop from piece)
    ≡ take (at - from) (drop from piece) ++ get_or (drop from piece) (at - from) 0 ∷ [] = grind (arith, common_steps) in
    let byte : get_or (drop from piece) (at - from) 0 ≡ get_or piece at 0 = grind (arith, common_steps) in
    ap (λ n. line ++ take n (drop from piece)) next
    ∙ ap (λ l. line ++ l) (step ∙ ap (λ b. take (at - from) (drop from piece) ++ b ∷ []) byte)
    ∙ sym (append_assoc line (run piece from at) (get_or piece at 0 ∷ []))

-- a line end came, and the line's answer is held
pub feed_end : (answers next after : Answers) (start now : Option (List ℕ)) (held text piece line more : List ℕ) (i : ℕ)
    → i < length piece → get_or piece i 0 ≡ 10 → Going answers next start now held (text ++ take i piece) line
    → more ≡ held ++ next (line ∷ [])
    → ((rest : List (List ℕ)) → next (line ∷ rest) ≡ next (line ∷ []) ++ after rest)
    → Going answers after start now more (text ++ take (i + 1) piece) []
feed_end answers next after start now held text piece line more i b e h a f =
    subst (λ l. Going answers after start now more l []) (sym (piece_step text piece i 10 b e))
    (going_end answers next after start now held (text ++ take i piece) line more h a f)

-- another byte came
pub feed_more : (answers next : Answers) (start now : Option (List ℕ)) (held text piece line longer : List ℕ) (i : ℕ)
    → i < length piece → get_or piece i 0 ≢ 10 → Going answers next start now held (text ++ take i piece) line
    → longer ≡ line ++ get_or piece i 0 ∷ [] → Going answers next start now held (text ++ take (i + 1) piece) longer
feed_more answers next start now held text piece line longer i b e h d =
    let other : (get_or piece i 0 == 10) ≡ false = search rules in
    subst (λ l. Going answers next start now held (text ++ take (i + 1) piece) l) (sym d)
    (subst (λ l. Going answers next start now held l (line ++ get_or piece i 0 ∷ []))
    (sym (piece_step text piece i (get_or piece i 0) b refl))
    (going_more answers next start now held (text ++ take i piece) line (get_or piece i 0) other h))

-- the writer failed
pub feed_cut : (answers next : Answers) (start now new : Option (List ℕ)) (held text piece line : List ℕ) (i : ℕ)
    → Going answers next start now held (text ++ take i piece) line
    → ((front back : List (List ℕ)) → IsBeginning (answers front) (answers (front ++ back)))
    → AppendsPart now new held → AppendsPart start new (answers (whole_lines (text ++ piece)))
feed_cut answers next start now new held text piece line i h f p =
    subst (λ l. AppendsPart start new (answers (whole_lines l))) (piece_rest text piece i)
    (cut_before answers start new (text ++ take i piece) (drop i piece) f
    (cut_in_held answers next start now new held (text ++ take i piece) line h p))

-- memory was wanted
pub feed_stopped : (answers next : Answers) (start now : Option (List ℕ)) (held text piece line : List ℕ) (i : ℕ)
    → Going answers next start now held (text ++ take i piece) line
    → HasHeld answers start now held (text ++ piece)
feed_stopped answers next start now held text piece line i h =
    subst (HasHeld answers start now held) (piece_rest text piece i)
    (stopped answers next start now held (text ++ take i piece) (drop i piece) line h)
