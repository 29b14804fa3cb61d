use Rattle.std.proofs.Common.{◌≡◌, ◌≢◌, ◌==◌, ℤ, Bool, true, false, List, [], ◌∷◌, ◌&&◌, length, arith, rules, ap}
use Rattle.std.proofs.Common.{◌∙◌, refl, sym}
use Rattle.std.specs.List.{list_all, zip}
use Rattle.std.proofs.lemmas.Bool.Decides.{nat_tests}
use Rattle.std.proofs.lemmas.Iterator.{YieldsList-from_slice, YieldsList-from_zip}
use Rattle.std.proofs.lemmas.Iterator.Search.{all_from_yields_List}
use borrow.Author.Tests.{tests}
use Rattle.bit_table_layout.specs.Fields.{FieldShape, takes}
use Rattle.bit_table_layout.specs.Rows.{take_all}
use Rattle.bit_table_commands.proofs.cause.take_all.Goals as goal

-- whether a field takes a number
abbrev is_taken : FieldShape × ℤ → Bool
is_taken p = takes p.0 p.1

list_all-zip : (fs : List FieldShape) (vs : List ℤ) → length vs ≡ length fs
    → list_all is_taken (zip fs vs) ≡ take_all fs vs
list_all-zip [] [] e = refl
list_all-zip [] (v ∷ vs) e = absurd (omega arith)
list_all-zip (f ∷ fs) [] e = absurd (omega arith)
list_all-zip (f ∷ fs) (v ∷ vs) e = ap (λ b. takes f v && b) (list_all-zip fs vs (omega arith))

and-false : (b : Bool) → (b && false) ≡ false
and-false true = refl
and-false false = refl

take_all-other : (fs : List FieldShape) (vs : List ℤ) → length fs ≢ length vs → take_all fs vs ≡ false
take_all-other [] [] e = absurd (e refl)
take_all-other [] (v ∷ vs) e = refl
take_all-other (f ∷ fs) [] e = refl
take_all-other (f ∷ fs) (v ∷ vs) e =
    ap (λ b. takes f v && b) (take_all-other fs vs (λ h. e (omega (arith, h)))) ∙ and-false (takes f v)

pub returns-then-fields-values : goal.returns-then-fields-values
returns-then-fields-values c =
    let fs = c.args.fields.now in
    let vs = c.args.values.now in
    let all : c.all.result ≡ list_all is_taken (zip fs vs) =
    all_from_yields_List is_taken c.all.new.self _ c.all.result c.all.ensures.ran
    (YieldsList-from_zip (YieldsList-from_slice fs cc) (YieldsList-from_slice vs cc))
    (λ x b q k. search (rules, tests)) in
    all ∙ list_all-zip fs vs (sym c.if-fields-values.true)

pub returns-else-fields-values : goal.returns-else-fields-values
returns-else-fields-values c =
    let fs = c.args.fields.now in
    let vs = c.args.values.now in
    let differ : (length fs == length vs) ≡ false = grind (arith, nat_tests, c.if-fields-values.false) in
    differ ∙ sym (take_all-other fs vs c.if-fields-values.false)
