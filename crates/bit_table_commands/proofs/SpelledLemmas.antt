-- Commands as lines spell them, and what is kept of them.
use Rattle.std.proofs.Common.{◌≡◌, ℕ, ◌==◌, not, Bool, true, false, cond, ℤ, List, [], ◌∷◌, length, Option, None, Some}
use Rattle.std.proofs.Common.{option_and_then, option_map, refl, sym, ap, ◌∙◌}
use Rattle.std.proofs.lemmas.Option.{option_and_then_some}
use Rattle.bit_table_layout.specs.LineWords.{words}
use Rattle.bit_table_layout.specs.Numerals.{number_in}
use Rattle.bit_table_layout.specs.Layouts.{LayoutShape}
use Rattle.bit_table_layout.specs.declared.bool_op.BoolOp.TheVariants.{And, Or, Xor}
use Rattle.bit_table_commands.specs.declared.name.Name.{Name}
use Rattle.bit_table_commands.specs.declared.name.Name.TheVariants as name
use Rattle.bit_table_commands.specs.declared.command.Command.{Command}
use Rattle.bit_table_commands.specs.declared.command.Command.TheVariants.{Insert, Delete, Set, Get, Copy, Swap, Rotate}
use Rattle.bit_table_commands.specs.declared.command.Command.TheVariants.{Dup, Image, Load, Keep, Back, Mark, Combine}
use Rattle.bit_table_commands.specs.declared.command.Command.TheVariants.{Not, Count, List as Listing, Drop}
use Rattle.bit_table_commands.specs.Commands.{command_of, command_in, command_named, insert_in, insert_from, set_in}
use Rattle.bit_table_commands.specs.Commands.{field_and_value, alone, one_number, two_numbers, three_numbers}
use Rattle.bit_table_commands.specs.Commands.{whole_numbers_in, name_of, cut_off, mark_in, load_in, field_test_value}
use Rattle.bit_table_commands.specs.Commands.{bytes_in, letter_in, one_letter, two_letters}
use Rattle.bit_table_commands.specs.Causes.{wrong_form}

-- ---- a command that a line spells has the right form

mapped-form : {A : Type 0} (l : LayoutShape) (make : A → Command) (o : Option A) (c : Command)
    → ((a : A) → wrong_form l (make a) ≡ false) → option_map make o ≡ Some c → wrong_form l c ≡ false
mapped-form l make None c h e = absurd cc
mapped-form l make (Some a) c h e = let same : make a ≡ c = cc in sym (ap (wrong_form l) same) ∙ h a

insert_from-form : (l : LayoutShape) (p : ℕ) (vs : List ℤ) (c : Command) (b : Bool) → (length vs == length l.fields) ≡ b
    → cond b (Some (Insert p vs)) None ≡ Some c → wrong_form l c ≡ false
insert_from-form l p vs c true h e =
    let same : Insert p vs ≡ c = cc in sym (ap (wrong_form l) same) ∙ ap not h
insert_from-form l p vs c false h e = absurd cc

insert_in-form : (l : LayoutShape) (ws : List (List ℕ)) (c : Command) → insert_in l ws ≡ Some c
    → wrong_form l c ≡ false
insert_in-form l [] c e = absurd cc
insert_in-form l (w ∷ ws) c e =
    option_and_then_some (λ p. option_and_then (insert_from l p) (whole_numbers_in ws)) (number_in w) c e
    (λ p a b. option_and_then_some (insert_from l p) (whole_numbers_in ws) c b
    (λ vs d f. insert_from-form l p vs c (length vs == length l.fields) refl f))

set_in-form : (l : LayoutShape) (ws : List (List ℕ)) (c : Command) → set_in l ws ≡ Some c → wrong_form l c ≡ false
set_in-form l [] c e = absurd cc
set_in-form l (w ∷ ws) c e =
    option_and_then_some (λ p. option_map (λ fv. Set p fv.0 fv.1) (field_and_value l ws)) (number_in w) c e
    (λ p a b. mapped-form l (λ fv. Set p fv.0 fv.1) (field_and_value l ws) c (λ fv. refl) b)

mark_in-form : (l : LayoutShape) (ws : List (List ℕ)) (c : Command) → mark_in l ws ≡ Some c → wrong_form l c ≡ false
mark_in-form l [] c e = absurd cc
mark_in-form l (w ∷ ws) c e =
    option_and_then_some (λ x. option_map (λ ftv. Mark x ftv.0 ftv.1 ftv.2) (field_test_value l ws)) (letter_in w) c e
    (λ x a b. mapped-form l (λ ftv. Mark x ftv.0 ftv.1 ftv.2) (field_test_value l ws) c (λ ftv. refl) b)

load_in-form : (l : LayoutShape) (ws : List (List ℕ)) (c : Command) → load_in ws ≡ Some c → wrong_form l c ≡ false
load_in-form l [] c e = absurd cc
load_in-form l (w ∷ ws) c e =
    option_and_then_some (λ n. option_map (λ bytes. Load n bytes) (bytes_in ws)) (number_in w) c e
    (λ n a b. mapped-form l (λ bytes. Load n bytes) (bytes_in ws) c (λ bytes. refl) b)

alone-form : (l : LayoutShape) (whole c : Command) (ws : List (List ℕ)) → wrong_form l whole ≡ false
    → alone whole ws ≡ Some c → wrong_form l c ≡ false
alone-form l whole c [] h e = let same : whole ≡ c = cc in sym (ap (wrong_form l) same) ∙ h
alone-form l whole c (w ∷ ws) h e = absurd cc

named-form : (l : LayoutShape) (n : Name) (ws : List (List ℕ)) (c : Command) → command_named l n ws ≡ Some c
    → wrong_form l c ≡ false
named-form l name.Insert ws c e = insert_in-form l ws c e
named-form l name.Delete ws c e = mapped-form l (λ pq. Delete pq.0 pq.1) (two_numbers ws) c (λ pq. refl) e
named-form l name.Set ws c e = set_in-form l ws c e
named-form l name.Get ws c e = mapped-form l Get (one_number ws) c (λ p. refl) e
named-form l name.Copy ws c e =
    mapped-form l (λ pqr. Copy pqr.0 pqr.1 pqr.2) (three_numbers ws) c (λ pqr. refl) e
named-form l name.Swap ws c e = mapped-form l (λ pq. Swap pq.0 pq.1) (two_numbers ws) c (λ pq. refl) e
named-form l name.Rotate ws c e =
    mapped-form l (λ pqk. Rotate pqk.0 pqk.1 pqk.2) (three_numbers ws) c (λ pqk. refl) e
named-form l name.Dup ws c e = mapped-form l (λ pq. Dup pq.0 pq.1) (two_numbers ws) c (λ pq. refl) e
named-form l name.Image ws c e = alone-form l Image c ws refl e
named-form l name.Load ws c e = load_in-form l ws c e
named-form l name.Keep ws c e = alone-form l Keep c ws refl e
named-form l name.Back ws c e = alone-form l Back c ws refl e
named-form l name.Mark ws c e = mark_in-form l ws c e
named-form l name.And ws c e = mapped-form l (λ xy. Combine And xy.0 xy.1) (two_letters ws) c (λ xy. refl) e
named-form l name.Or ws c e = mapped-form l (λ xy. Combine Or xy.0 xy.1) (two_letters ws) c (λ xy. refl) e
named-form l name.Xor ws c e = mapped-form l (λ xy. Combine Xor xy.0 xy.1) (two_letters ws) c (λ xy. refl) e
named-form l name.Not ws c e = mapped-form l Not (one_letter ws) c (λ x. refl) e
named-form l name.Count ws c e = mapped-form l Count (one_letter ws) c (λ x. refl) e
named-form l name.List ws c e = mapped-form l Listing (one_letter ws) c (λ x. refl) e
named-form l name.Drop ws c e = mapped-form l Drop (one_letter ws) c (λ x. refl) e

spelled_in-form : (l : LayoutShape) (ws : List (List ℕ)) (c : Command) → command_in l ws ≡ Some c
    → wrong_form l c ≡ false
spelled_in-form l [] c e = absurd cc
spelled_in-form l (first ∷ rest) c e =
    option_and_then_some (λ n. command_named l n rest) (name_of first) c e (λ n a b. named-form l n rest c b)

-- a line that spells a command is not refused for its form
pub spelled-form : (l : LayoutShape) (line : List ℕ) (c : Command) → command_of l line ≡ Some c
    → wrong_form l c ≡ false
unfolding command_of
spelled-form l line c e = spelled_in-form l (words line) c e

-- ---- what is kept of a command

-- the command that words spell, and what is kept of it
pub record IsSpelled (spelled : Option Command) (kept : Command) : Type 0 where
  pub whole : Command
  pub is : spelled ≡ Some whole
  pub cut : cut_off whole ≡ kept

pub is_spelled : (spelled : Option Command) (kept : Command) → option_map cut_off spelled ≡ Some kept
    → IsSpelled spelled kept
is_spelled None kept e = absurd cc
is_spelled (Some c) kept e = record { whole = c; is = refl; cut = cc }
