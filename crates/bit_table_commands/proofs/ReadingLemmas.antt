-- The words of an insertion, read word by word.
use Rattle.std.proofs.Common.{◌≡◌, ◌≢◌, ℕ, zero, suc, ◌-◌, ◌==◌, ◌&&◌, Bool, true, false, ℤ, List, [], ◌∷◌}
use Rattle.std.proofs.Common.{length, map, Option, None, Some, option_map, option_and_then}
use Rattle.std.proofs.Common.{is_some, unwrap_or, refl, sym, ap, ◌∙◌, arith, pos}
use Rattle.std.proofs.lemmas.Bool.Decides.{nat_tests}
use Rattle.bit_table_layout.specs.Numerals.{number_in, whole_number_in}
use Rattle.bit_table_layout.specs.Layouts.{LayoutShape}
use Rattle.bit_table_commands.specs.declared.command.Command.{Command}
use Rattle.bit_table_commands.specs.declared.command.Command.TheVariants.{Insert}
use Rattle.bit_table_commands.specs.Commands.{whole_numbers_in, insert_in, insert_from}
use Rattle.bit_table_commands.specs.Commands.{cut_value, cut_place, cut_off}
use Rattle.bit_table_commands.specs.CommandSteps.{are_values, value_in}

-- whether there are numbers, so many
abbrev counts : ℕ → Option (List ℤ) → Bool
counts n None = false
counts n (Some vs) = length vs == n

suc-zero : (n : ℕ) → false ≡ (suc n == 0)
suc-zero n = grind (arith, nat_tests)

zero-suc : (n : ℕ) → false ≡ (0 == suc n)
zero-suc n = grind (arith, nat_tests)

suc-suc : (m n : ℕ) → (m == n) ≡ (suc m == suc n)
suc-suc m n = grind (arith, nat_tests)

counts-zero : (o : Option ℤ) (os : Option (List ℤ))
    → false ≡ counts 0 (option_and_then (λ v. option_map (λ vs. v ∷ vs) os) o)
counts-zero None os = refl
counts-zero (Some v) None = refl
counts-zero (Some v) (Some vs) = suc-zero (length vs)

counts-suc : (n : ℕ) (o : Option ℤ) (os : Option (List ℤ))
    → (is_some o && counts n os) ≡ counts (suc n) (option_and_then (λ v. option_map (λ vs. v ∷ vs) os) o)
counts-suc n None os = refl
counts-suc n (Some v) None = refl
counts-suc n (Some v) (Some vs) = suc-suc (length vs) n

-- so many words spell a whole number each exactly where they spell so many whole numbers
are_values-counts : (n : ℕ) (ws : List (List ℕ)) → are_values n ws ≡ counts n (whole_numbers_in ws)
are_values-counts zero [] = refl
are_values-counts (suc n) [] = zero-suc n
are_values-counts zero (w ∷ ws) = counts-zero (whole_number_in w) (whole_numbers_in ws)
are_values-counts (suc n) (w ∷ ws) =
    ap (λ b. is_some (whole_number_in w) && b) (are_values-counts n ws)
    ∙ counts-suc n (whole_number_in w) (whole_numbers_in ws)

is_some-map : (o v : Option ℤ) → o ≡ option_map cut_value v → is_some o ≡ true → is_some v ≡ true
is_some-map o None e h = absurd (let k = rw e at h in cc)
is_some-map o (Some v) e h = refl

-- one word more was looked at
pub are_values-step : (n : ℕ) (all ws : List (List ℕ)) (w : List ℕ) (o : Option ℤ) → all ≡ w ∷ ws → n ≢ 0
    → o ≡ option_map cut_value (whole_number_in w) → is_some o ≡ true → are_values n all ≡ are_values (n - 1) ws
are_values-step zero all ws w o e p k h = absurd (p refl)
are_values-step (suc n) all ws w o e p k h =
    ap (are_values (suc n)) e ∙ ap (λ b. b && are_values n ws) (is_some-map o (whole_number_in w) k h)
    ∙ ap (λ m. are_values m ws) (omega arith)

-- values, as they are kept, one word at a time
first_value : (o : Option ℤ) (v : ℤ) → o ≡ Some v → unwrap_or (option_map cut_value o) (pos 0) ≡ cut_value v
first_value o v e = rw e refl

record Cons (o : Option ℤ) (os : Option (List ℤ)) (vs : List ℤ) : Type 0 where
  first : ℤ
  rest : List ℤ
  one : o ≡ Some first
  more : os ≡ Some rest
  both : first ∷ rest ≡ vs

cons-of : (o : Option ℤ) (os : Option (List ℤ)) (vs : List ℤ)
    → option_and_then (λ v. option_map (λ vs. v ∷ vs) os) o ≡ Some vs → Cons o os vs
cons-of None os vs e = absurd cc
cons-of (Some v) None vs e = absurd cc
cons-of (Some v) (Some ws) vs e = record { first = v; rest = ws; one = refl; more = refl; both = cc }

-- the values that words spell are kept word by word
kept_values : (ws : List (List ℕ)) (vs : List ℤ) → whole_numbers_in ws ≡ Some vs
    → map value_in ws ≡ map cut_value vs
kept_values [] vs e = let none : [] ≡ vs = cc in ap (map cut_value) none
kept_values (w ∷ ws) vs e =
    let h = cons-of (whole_number_in w) (whole_numbers_in ws) vs e in
    let head : value_in w ≡ cut_value h.first = first_value (whole_number_in w) h.first h.one in
    let tail : map value_in ws ≡ map cut_value h.rest = kept_values ws h.rest h.more in
    ap (λ v. v ∷ map value_in ws) head ∙ ap (λ l. cut_value h.first ∷ l) tail ∙ ap (map cut_value) h.both

-- the insertion at a place of so many values
abbrev insertion : LayoutShape → Option (List ℤ) → Option ℕ → Option Command
insertion l os o = option_and_then (λ p. option_and_then (insert_from l p) os) o

insertion-none : (l : LayoutShape) (os : Option (List ℤ)) (o : Option ℕ) → counts (length l.fields) os ≡ false
    → insertion l os o ≡ None
insertion-none l os None h = refl
insertion-none l None (Some p) h = refl
insertion-none l (Some vs) (Some p) h = rw h refl

insertion-some : (l : LayoutShape) (os : Option (List ℤ)) (p : ℕ) → counts (length l.fields) os ≡ true
    → (vs : List ℤ) × (os ≡ Some vs) × (insertion l os (Some p) ≡ Some (Insert p vs))
insertion-some l None p h = absurd (cc)
insertion-some l (Some vs) p h = (vs, refl, rw h refl)

-- words that do not spell one value a field spell no insertion
pub insert-refused : (l : LayoutShape) (fields : ℕ) (all ws : List (List ℕ)) (w : List ℕ) → all ≡ w ∷ ws
    → fields ≡ length l.fields → are_values fields ws ≡ false → option_map cut_off (insert_in l all) ≡ None
insert-refused l fields all ws w e f h =
    let none : counts (length l.fields) (whole_numbers_in ws) ≡ false =
    sym (ap (λ n. counts n (whole_numbers_in ws)) f) ∙ sym (are_values-counts fields ws) ∙ h in
    ap (λ ws. option_map cut_off (insert_in l ws)) e
    ∙ ap (option_map cut_off) (insertion-none l (whole_numbers_in ws) (number_in w) none)

cut_some : (o : Option ℕ) (q : ℕ) → option_map cut_place o ≡ Some q → (p : ℕ) × (o ≡ Some p) × (cut_place p ≡ q)
cut_some None q e = absurd cc
cut_some (Some p) q e = (p, refl, cc)

-- a row number and one value a field spell an insertion, which is kept cut off
pub insert-kept : (l : LayoutShape) (fields : ℕ) (all ws : List (List ℕ)) (w : List ℕ) (q : ℕ) → all ≡ w ∷ ws
    → fields ≡ length l.fields → option_map cut_place (number_in w) ≡ Some q → are_values fields ws ≡ true
    → option_map cut_off (insert_in l all) ≡ Some (Insert q (map value_in ws))
insert-kept l fields all ws w q e f place h =
    let so_many : counts (length l.fields) (whole_numbers_in ws) ≡ true =
    sym (ap (λ n. counts n (whole_numbers_in ws)) f) ∙ sym (are_values-counts fields ws) ∙ h in
    let p = cut_some (number_in w) q place in
    let vs = insertion-some l (whole_numbers_in ws) p.0 so_many in
    let values : map value_in ws ≡ map cut_value vs.0 = kept_values ws vs.0 vs.1 in
    ap (λ ws. option_map cut_off (insert_in l ws)) e
    ∙ ap (λ o. option_map cut_off (insertion l (whole_numbers_in ws) o)) p.1
    ∙ ap (option_map cut_off) vs.2
    ∙ ap (λ n. Some (Insert n (map cut_value vs.0))) p.2
    ∙ ap (λ l. Some (Insert q l)) (sym values)
