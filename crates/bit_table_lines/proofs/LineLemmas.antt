-- The lines of a text that grows by a byte.
use Rattle.std.proofs.Common.{◌≡◌, ℕ, ◌-◌, ◌==◌, true, false, cond, List, [], ◌∷◌, ◌++◌, length, take, refl, sym, ap}
use Rattle.std.proofs.Common.{◌∙◌, arith}
use Rattle.std.specs.List.{onto_first}
use Rattle.std.proofs.lemmas.Grind.{common_steps}
use Rattle.bit_table_lines.specs.Lines.{lines, whole_lines}

-- there is a first part
abbrev HasPart : List (List ℕ) → Type 0
HasPart [] = ⊥
HasPart (p ∷ ps) = Unit {0}

onto_first-has : (x : ℕ) (ps : List (List ℕ)) → HasPart (onto_first x ps)
onto_first-has x [] = tt
onto_first-has x (p ∷ ps) = tt

lines-has : (text : List ℕ) → HasPart (lines text)
lines-has [] = tt
lines-has (x ∷ xs) =
    elim (x == 10) as (λ c. HasPart (cond c ([] ∷ lines xs) (onto_first x (lines xs))))
    [ true ↦ tt | false ↦ onto_first-has x (lines xs) ]

onto_first-append : (x : ℕ) (ps qs : List (List ℕ)) → HasPart ps → onto_first x (ps ++ qs) ≡ onto_first x ps ++ qs
onto_first-append x [] qs h = absurd h
onto_first-append x (p ∷ ps) qs h = refl

-- a line end closes the last part
pub lines-end : (text : List ℕ) → lines (text ++ 10 ∷ []) ≡ lines text ++ [] ∷ []
lines-end [] = refl
lines-end (x ∷ xs) =
    let h : lines (xs ++ 10 ∷ []) ≡ lines xs ++ [] ∷ [] = lines-end xs in
    rw h (elim (x == 10)
    as (λ c. cond c ([] ∷ (lines xs ++ [] ∷ [])) (onto_first x (lines xs ++ [] ∷ []))
    ≡ cond c ([] ∷ lines xs) (onto_first x (lines xs)) ++ [] ∷ [])
    [ true ↦ refl | false ↦ onto_first-append x (lines xs) ([] ∷ []) (lines-has xs) ])

-- the parts with b put behind the last
abbrev onto_last : List (List ℕ) → ℕ → List (List ℕ)
onto_last [] b = (b ∷ []) ∷ []
onto_last (p ∷ []) b = (p ++ b ∷ []) ∷ []
onto_last (p ∷ q ∷ qs) b = p ∷ onto_last (q ∷ qs) b

onto_last-cons : (p : List ℕ) (ps : List (List ℕ)) (b : ℕ) → HasPart ps → onto_last (p ∷ ps) b ≡ p ∷ onto_last ps b
onto_last-cons p [] b h = absurd h
onto_last-cons p (q ∷ qs) b h = refl

onto_both : (x b : ℕ) (ps : List (List ℕ)) → onto_first x (onto_last ps b) ≡ onto_last (onto_first x ps) b
onto_both x b [] = refl
onto_both x b (p ∷ []) = refl
onto_both x b (p ∷ q ∷ qs) = refl

lines-onto_last : (text : List ℕ) (b : ℕ) → (b == 10) ≡ false → lines (text ++ b ∷ []) ≡ onto_last (lines text) b
lines-onto_last [] b e = rw e refl
lines-onto_last (x ∷ xs) b e =
    let h : lines (xs ++ b ∷ []) ≡ onto_last (lines xs) b = lines-onto_last xs b e in
    rw h (elim (x == 10)
    as (λ c. cond c ([] ∷ onto_last (lines xs) b) (onto_first x (onto_last (lines xs) b))
    ≡ onto_last (cond c ([] ∷ lines xs) (onto_first x (lines xs))) b)
    [ true ↦ sym (onto_last-cons [] (lines xs) b (lines-has xs)) | false ↦ onto_both x b (lines xs) ])

onto_last-append : (whole : List (List ℕ)) (line : List ℕ) (b : ℕ)
    → onto_last (whole ++ line ∷ []) b ≡ whole ++ (line ++ b ∷ []) ∷ []
onto_last-append [] line b = refl
onto_last-append (p ∷ []) line b = refl
onto_last-append (p ∷ q ∷ qs) line b = ap (λ l. p ∷ l) (onto_last-append (q ∷ qs) line b)

-- any other byte goes onto the last part
pub lines-more : (text : List ℕ) (b : ℕ) (whole : List (List ℕ)) (line : List ℕ) → (b == 10) ≡ false
    → lines text ≡ whole ++ line ∷ [] → lines (text ++ b ∷ []) ≡ whole ++ (line ++ b ∷ []) ∷ []
lines-more text b whole line e h =
    lines-onto_last text b e ∙ ap (λ l. onto_last l b) h ∙ onto_last-append whole line b

take-all_but_last : (whole : List (List ℕ)) (line : List ℕ)
    → take (length (whole ++ line ∷ []) - 1) (whole ++ line ∷ []) ≡ whole
take-all_but_last whole line = grind (arith, common_steps)

pub whole_lines-is : (text : List ℕ) (whole : List (List ℕ)) (line : List ℕ) → lines text ≡ whole ++ line ∷ []
    → whole_lines text ≡ whole
whole_lines-is text whole line h = ap (λ l. take (length l - 1) l) h ∙ take-all_but_last whole line

-- the whole lines once a line end has come
pub whole_lines-end : (text line : List ℕ) → lines text ≡ whole_lines text ++ line ∷ []
    → whole_lines (text ++ 10 ∷ []) ≡ whole_lines text ++ line ∷ []
whole_lines-end text line h =
    whole_lines-is (text ++ 10 ∷ []) (whole_lines text ++ line ∷ []) [] (lines-end text ∙ ap (λ l. l ++ [] ∷ []) h)

-- any other byte closes no line
pub whole_lines-more : (text line : List ℕ) (b : ℕ) → (b == 10) ≡ false → lines text ≡ whole_lines text ++ line ∷ []
    → whole_lines (text ++ b ∷ []) ≡ whole_lines text
whole_lines-more text line b e h =
    whole_lines-is (text ++ b ∷ []) (whole_lines text) (line ++ b ∷ []) (lines-more text b (whole_lines text) line e h)

-- each text has a last line
pub record HasLast (text : List ℕ) : Type 0 where
  pub last : List ℕ
  pub cut : lines text ≡ whole_lines text ++ last ∷ []

-- the whole lines of a text are the first of those of a longer one
pub record GrowsBy (short long : List ℕ) : Type 0 where
  pub more : List (List ℕ)
  pub is : whole_lines long ≡ whole_lines short ++ more
