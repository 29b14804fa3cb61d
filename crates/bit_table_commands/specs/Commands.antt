-- Commands as words spell them.
use Rattle.std.specs.Prelude.{ℕ, ◌-◌, ◌^◌, ◌==◌, min, ℤ, pos, neg_ℤ, List, []}
use Rattle.std.specs.Prelude.{◌∷◌, length, map, find, position, codes, Option, Some, None}
use Rattle.std.specs.Prelude.{option_and_then, option_map, if◌then◌else◌}
use Rattle.std.specs.Int.{int_min, int_max}
use Rattle.std.specs.Result.{result_ok}
use Rattle.std.specs.Str.{bytes_eq}
use Rattle.bit_table_layout.specs.LineWords.{words}
use Rattle.bit_table_layout.specs.Numerals.{number_in, whole_number_in}
use Rattle.bit_table_layout.specs.Fields.{is_name}
use Rattle.bit_table_layout.specs.Layouts.{LayoutShape}
use Rattle.bit_table_layout.specs.Letters.{letter_of}
use Rattle.bit_table_layout.specs.declared.bool_op.BoolOp.TheVariants.{And, Or, Xor}
use Rattle.hex.specs.Hex.{decode_of}
use Rattle.bit_table_commands.specs.declared.name.Name.{Name}
use Rattle.bit_table_commands.specs.declared.name.Name.TheVariants as name
use Rattle.bit_table_commands.specs.declared.command.Command.{Command}
use Rattle.bit_table_commands.specs.declared.command.Command.TheVariants.{Insert, Delete, Set, Get, Copy, Swap, Rotate}
use Rattle.bit_table_commands.specs.declared.command.Command.TheVariants.{Dup, Image, Load, Keep, Back, Mark, Combine}
use Rattle.bit_table_commands.specs.declared.command.Command.TheVariants.{Not, Count, List as Listing, Drop}
use Rattle.bit_table_commands.specs.declared.test.Test.{Test}
use Rattle.bit_table_commands.specs.declared.test.Test.TheVariants.{Below, Equal, Above}

-- ---- names

-- all names
abbrev pub names : List Name
names =
    name.Insert ∷ name.Delete ∷ name.Set ∷ name.Get ∷ name.Copy ∷ name.Swap ∷ name.Rotate ∷ name.Dup ∷ name.Image
    ∷ name.Load ∷ name.Keep ∷ name.Back ∷ name.Mark ∷ name.And ∷ name.Or ∷ name.Xor ∷ name.Not ∷ name.Count ∷ name.List
    ∷ name.Drop ∷ []

-- a name as a line has it
abbrev pub name_text : Name → List ℕ
name_text name.Insert = codes "insert"
name_text name.Delete = codes "delete"
name_text name.Set = codes "set"
name_text name.Get = codes "get"
name_text name.Copy = codes "copy"
name_text name.Swap = codes "swap"
name_text name.Rotate = codes "rotate"
name_text name.Dup = codes "dup"
name_text name.Image = codes "image"
name_text name.Load = codes "load"
name_text name.Keep = codes "keep"
name_text name.Back = codes "back"
name_text name.Mark = codes "mark"
name_text name.And = codes "and"
name_text name.Or = codes "or"
name_text name.Xor = codes "xor"
name_text name.Not = codes "not"
name_text name.Count = codes "count"
name_text name.List = codes "list"
name_text name.Drop = codes "drop"

-- the name that a word is, if it is one
abbrev pub name_of : List ℕ → Option Name
name_of word = find (λ n. bytes_eq (name_text n) word) names

-- ---- the words behind a name

-- a row number and nothing more
abbrev pub one_number : List (List ℕ) → Option ℕ
one_number [] = None
one_number (word ∷ []) = number_in word
one_number (word ∷ more ∷ rest) = None

-- two row numbers and nothing more
abbrev pub two_numbers : List (List ℕ) → Option (ℕ × ℕ)
two_numbers [] = None
two_numbers (word ∷ rest) = option_and_then (λ p. option_map (λ q. (p, q)) (one_number rest)) (number_in word)

-- three row numbers and nothing more
abbrev pub three_numbers : List (List ℕ) → Option (ℕ × ℕ × ℕ)
three_numbers [] = None
three_numbers (word ∷ rest) =
    option_and_then (λ p. option_map (λ qr. (p, qr.0, qr.1)) (two_numbers rest)) (number_in word)

-- a value and nothing more
abbrev pub one_value : List (List ℕ) → Option ℤ
one_value [] = None
one_value (word ∷ []) = whole_number_in word
one_value (word ∷ more ∷ rest) = None

-- the whole numbers that words spell, where each spells one
abbrev pub whole_numbers_in : List (List ℕ) → Option (List ℤ)
whole_numbers_in [] = Some []
whole_numbers_in (word ∷ rest) =
    option_and_then (λ v. option_map (λ vs. v ∷ vs) (whole_numbers_in rest)) (whole_number_in word)

-- the letter that a word is: one byte `a` to `z`
abbrev pub letter_in : List ℕ → Option ℕ
letter_in [] = None
letter_in (byte ∷ []) = letter_of byte
letter_in (byte ∷ more ∷ rest) = None

-- a letter and nothing more
abbrev pub one_letter : List (List ℕ) → Option ℕ
one_letter [] = None
one_letter (word ∷ []) = letter_in word
one_letter (word ∷ more ∷ rest) = None

-- two letters and nothing more
abbrev pub two_letters : List (List ℕ) → Option (ℕ × ℕ)
two_letters [] = None
two_letters (word ∷ rest) = option_and_then (λ x. option_map (λ y. (x, y)) (one_letter rest)) (letter_in word)

-- the test that a byte is: `<` is 60, `=` is 61, `>` is 62
abbrev pub test_of : ℕ → Option Test
test_of byte =
    if byte == 60 then Some Below else (if byte == 61 then Some Equal else (if byte == 62 then Some Above else None))

-- the test that a word is
abbrev pub test_in : List ℕ → Option Test
test_in [] = None
test_in (byte ∷ []) = test_of byte
test_in (byte ∷ more ∷ rest) = None

-- a test and a value, and nothing more
abbrev pub test_and_value : List (List ℕ) → Option (Test × ℤ)
test_and_value [] = None
test_and_value (word ∷ rest) = option_and_then (λ t. option_map (λ v. (t, v)) (one_value rest)) (test_in word)

-- the bytes that are spelled: none by no word, else by one word, two hexadecimal digits of either case a byte
abbrev pub bytes_in : List (List ℕ) → Option (List ℕ)
bytes_in [] = Some []
bytes_in (word ∷ []) = result_ok (decode_of word)
bytes_in (word ∷ more ∷ rest) = None

-- ---- commands behind their names

-- `insert p v..`: a row number, and one value a field of the layout
abbrev pub insert_from : LayoutShape → ℕ → List ℤ → Option Command
insert_from l p vs = if length vs == length l.fields then Some (Insert p vs) else None

abbrev pub insert_in : LayoutShape → List (List ℕ) → Option Command
insert_in l [] = None
insert_in l (place ∷ values) =
    option_and_then (λ p. option_and_then (insert_from l p) (whole_numbers_in values)) (number_in place)

-- the place of the field of this name, if the layout has one
abbrev pub field_place : LayoutShape → List ℕ → Option ℕ
field_place l word = position (λ f. bytes_eq f.name word) l.fields

-- what a word of the shape of a name is to a layout: the place of its field, if there is one
abbrev pub field_in : LayoutShape → List ℕ → Option (Option ℕ)
field_in l word = if is_name word then Some (field_place l word) else None

-- `set p f v`: a row number, a field's name and a value
abbrev pub field_and_value : LayoutShape → List (List ℕ) → Option (Option ℕ × ℤ)
field_and_value l [] = None
field_and_value l (word ∷ rest) =
    option_and_then (λ f. option_map (λ v. (f, v)) (one_value rest)) (field_in l word)

abbrev pub set_in : LayoutShape → List (List ℕ) → Option Command
set_in l [] = None
set_in l (row ∷ rest) =
    option_and_then (λ p. option_map (λ fv. Set p fv.0 fv.1) (field_and_value l rest)) (number_in row)

-- a field's name, a test and a value
abbrev pub field_test_value : LayoutShape → List (List ℕ) → Option (Option ℕ × Test × ℤ)
field_test_value l [] = None
field_test_value l (word ∷ rest) =
    option_and_then (λ f. option_map (λ tv. (f, tv.0, tv.1)) (test_and_value rest)) (field_in l word)

-- `mark x f op v`: a letter, a field's name, a test and a value
abbrev pub mark_in : LayoutShape → List (List ℕ) → Option Command
mark_in l [] = None
mark_in l (letter ∷ rest) =
    option_and_then (λ x. option_map (λ ftv. Mark x ftv.0 ftv.1 ftv.2) (field_test_value l rest)) (letter_in letter)

-- `load c h` or `load c`: a row count, and bytes
abbrev pub load_in : List (List ℕ) → Option Command
load_in [] = None
load_in (count ∷ rest) = option_and_then (λ n. option_map (λ bytes. Load n bytes) (bytes_in rest)) (number_in count)

-- a command that takes nothing more
abbrev pub alone : Command → List (List ℕ) → Option Command
alone c [] = Some c
alone c (word ∷ rest) = None

-- the command of a name and the words behind it, where they spell one
abbrev pub command_named : LayoutShape → Name → List (List ℕ) → Option Command
command_named l name.Insert ws = insert_in l ws
command_named l name.Delete ws = option_map (λ pq. Delete pq.0 pq.1) (two_numbers ws)
command_named l name.Set ws = set_in l ws
command_named l name.Get ws = option_map Get (one_number ws)
command_named l name.Copy ws = option_map (λ pqr. Copy pqr.0 pqr.1 pqr.2) (three_numbers ws)
command_named l name.Swap ws = option_map (λ pq. Swap pq.0 pq.1) (two_numbers ws)
command_named l name.Rotate ws = option_map (λ pqk. Rotate pqk.0 pqk.1 pqk.2) (three_numbers ws)
command_named l name.Dup ws = option_map (λ pq. Dup pq.0 pq.1) (two_numbers ws)
command_named l name.Image ws = alone Image ws
command_named l name.Load ws = load_in ws
command_named l name.Keep ws = alone Keep ws
command_named l name.Back ws = alone Back ws
command_named l name.Mark ws = mark_in l ws
command_named l name.And ws = option_map (λ xy. Combine And xy.0 xy.1) (two_letters ws)
command_named l name.Or ws = option_map (λ xy. Combine Or xy.0 xy.1) (two_letters ws)
command_named l name.Xor ws = option_map (λ xy. Combine Xor xy.0 xy.1) (two_letters ws)
command_named l name.Not ws = option_map Not (one_letter ws)
command_named l name.Count ws = option_map Count (one_letter ws)
command_named l name.List ws = option_map Listing (one_letter ws)
command_named l name.Drop ws = option_map Drop (one_letter ws)

-- the command that words spell over a layout, where they spell one. Its numbers are those that the digits spell,
-- however great
abbrev pub command_in : LayoutShape → List (List ℕ) → Option Command
command_in l [] = None
command_in l (first ∷ rest) = option_and_then (λ n. command_named l n rest) (name_of first)

-- the command that a line spells over a layout, where it spells one
unfoldable pub command_of : LayoutShape → List ℕ → Option Command
command_of l line = command_in l (words line)

-- ---- commands as they are kept

-- a row number as a command keeps it: a number past `u64` as the greatest
abbrev pub cut_place : ℕ → ℕ
cut_place p = min p (2 ^ 64 - 1)

-- a value as a command keeps it: one past 2 ^ 64 as that, one below - 2 ^ 64 as that
abbrev pub cut_value : ℤ → ℤ
cut_value v = int_max (neg_ℤ (pos (2 ^ 64))) (int_min v (pos (2 ^ 64)))

-- a command as it is kept
abbrev pub cut_off : Command → Command
cut_off (Insert p vs) = Insert (cut_place p) (map cut_value vs)
cut_off (Delete p q) = Delete (cut_place p) (cut_place q)
cut_off (Set p f v) = Set (cut_place p) f (cut_value v)
cut_off (Get p) = Get (cut_place p)
cut_off (Copy p q r) = Copy (cut_place p) (cut_place q) (cut_place r)
cut_off (Swap p q) = Swap (cut_place p) (cut_place q)
cut_off (Rotate p q k) = Rotate (cut_place p) (cut_place q) (cut_place k)
cut_off (Dup p q) = Dup (cut_place p) (cut_place q)
cut_off (Load n bytes) = Load (cut_place n) bytes
cut_off (Mark x f t v) = Mark x f t (cut_value v)
cut_off c = c
