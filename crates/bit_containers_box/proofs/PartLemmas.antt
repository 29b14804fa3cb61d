-- Lists of which a beginning was written over.
use Rattle.std.proofs.Common.{◌≡◌, ◌≤◌, ℕ, List, ◌++◌, ◌∙◌, length, take, drop, arith, length-append, length-drop}
use Rattle.std.proofs.lemmas.List.{take_at, drop_at}

pub front_of : {X : Type 0} (n : ℕ) (front rest : List X) → length front ≡ n → take n (front ++ rest) ≡ front
front_of n front rest size = take_at front rest n size

pub rest_of : {X : Type 0} (n : ℕ) (front rest : List X) → length front ≡ n → drop n (front ++ rest) ≡ rest
rest_of n front rest size = drop_at front rest n size

-- a list of which so many elements were written over is these, and then the others
pub written_over : {X : Type 0} (xs ws rest : List X) → length ws ≤ length xs
    → take (length xs) ((ws ++ drop (length ws) xs) ++ rest) ≡ ws ++ drop (length ws) xs
written_over xs ws rest few =
    take_at (ws ++ drop (length ws) xs) rest (length xs)
    (length-append ws (drop (length ws) xs) ∙ omega (arith, length-drop (length ws) xs))

pub ruleset parts = (front_of, rest_of)
