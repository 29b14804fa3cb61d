-- Known lines, commands, edits and answers, computed: a wrong rule among the definitions does not check.
use Rattle.std.proofs.Common.{◌≡◌, ℕ, ◌-◌, ◌+◌, ◌^◌, ◌==◌, true, false, pos, neg_ℤ, List, [], ◌∷◌, ◌++◌, codes}
use Rattle.std.proofs.Common.{Option, None, Some, Bool, ◌*◌, ◌||◌, not, refl, ap, ◌∙◌}
use Rattle.std.specs.Prelude.{⊤, nat_lt}
use Rattle.std.specs.Fmt.{digits}
use Rattle.std.specs.List.{slice_split}
use Rattle.hex.proofs.OnLiterals.{hex_on_literals}
use Rattle.bit_table_layout.specs.declared.cause.Cause.{Cause}
use Rattle.bit_table_layout.specs.declared.layout.Rule.{Rule}
use Rattle.bit_table_layout.specs.declared.layout.Rule.TheVariants.{Low, High}
use Rattle.bit_table_layout.specs.CauseWords.{refusal_text}
use Rattle.bit_table_layout.specs.declared.layout.TheConstants.{MAX_BITS}
use Rattle.bit_table_layout.specs.Layouts.{LayoutShape, row_width}
use Rattle.bit_table_layout.proofs.LoadLemmas.{length-rows_in_bytes}
use Rattle.bit_table_layout.specs.Letters.{combined}
use Rattle.bit_table_layout.specs.Rows.{Row, new_row}
use Rattle.bit_table_layout.specs.declared.bool_op.BoolOp.TheVariants.{And, Or, Xor}
use Rattle.bit_table_commands.specs.declared.command.Command.{Command}
use Rattle.bit_table_commands.specs.declared.command.Command.TheVariants.{Insert, Delete, Set, Get, Copy, Swap, Rotate}
use Rattle.bit_table_commands.specs.declared.command.Command.TheVariants.{Dup, Image, Load, Keep, Back, Mark, Combine}
use Rattle.bit_table_commands.specs.declared.command.Command.TheVariants.{Not, Count, List as Listing, Drop}
use Rattle.bit_table_commands.specs.declared.test.Test.TheVariants.{Below, Equal, Above}
use Rattle.bit_table_commands.specs.Commands.{command_of, cut_place, cut_value, cut_off}
use Rattle.bit_table_commands.specs.Causes.{cause_in, line_cause, too_full}
use Rattle.bit_table_commands.specs.Marks.{row_bears, passes, number_in_field, rows_passing}
use Rattle.bit_table_commands.specs.Edits.{edit, edited, reply_to}
use Rattle.bit_table_commands.specs.Replies.{reply_text}
use Rattle.bit_table_commands.specs.declared.reply.Reply.TheVariants as answer
use Rattle.bit_table_commands.proofs.MarkLemmas.{rows_passing-marked}
use Rattle.bit_table_commands.specs.Tables.{TableShape, new_table}

-- ---- tables to begin with

-- `a:u3 b:i4`
two_fields : Rule → LayoutShape
two_fields rule = record {
  rule = rule;
  fields = record { name = codes "a"; width = 3; signed = false }
      ∷ record { name = codes "b"; width = 4; signed = true } ∷ [];
}

-- one field of so many bits
one_field : Rule → ℕ → LayoutShape
one_field rule n = record { rule = rule; fields = record { name = codes "f"; width = n; signed = false } ∷ [] }

-- `n:i64`, and `p:u3 q:u64`
signed_field : Rule → LayoutShape
signed_field rule = record { rule = rule; fields = record { name = codes "n"; width = 64; signed = true } ∷ [] }

wide_fields : Rule → LayoutShape
wide_fields rule = record {
  rule = rule;
  fields = record { name = codes "p"; width = 3; signed = false }
      ∷ record { name = codes "q"; width = 64; signed = false } ∷ [];
}

-- the rows 5 and -1, 2 and 3
two_rows : Rule → TableShape
two_rows rule = record {
  layout = two_fields rule;
  rows = new_row (pos 5 ∷ neg_ℤ (pos 1) ∷ []) ∷ new_row (pos 2 ∷ pos 3 ∷ []) ∷ [];
  kept = None;
}

-- ---- commands

command-insert : command_of (two_fields Low) (codes "insert 0 5 -1") ≡ Some (Insert 0 (pos 5 ∷ neg_ℤ (pos 1) ∷ []))
unfolding command_of two_fields
command-insert = refl

command-zeros : command_of (two_fields Low) (codes "\tinsert 0001  5 -0\r") ≡ Some (Insert 1 (pos 5 ∷ pos 0 ∷ []))
unfolding command_of two_fields
command-zeros = refl

command-great : command_of (two_fields Low) (codes "insert 18446744073709551616 9 -99999999999999999999")
    ≡ Some (Insert (2 ^ 64) (pos 9 ∷ neg_ℤ (pos 99999999999999999999) ∷ []))
unfolding command_of two_fields
command-great = refl

command-delete : command_of (two_fields Low) (codes "delete 3 18446744073709551617") ≡ Some (Delete 3 (2 ^ 64 + 1))
unfolding command_of two_fields
command-delete = refl

command-set : command_of (two_fields Low) (codes "set 1 b -7") ≡ Some (Set 1 (Some 1) (neg_ℤ (pos 7)))
unfolding command_of two_fields
command-set = refl

command-set_unknown : command_of (two_fields Low) (codes "set 1 c 7") ≡ Some (Set 1 None (pos 7))
unfolding command_of two_fields
command-set_unknown = refl

command-get : command_of (two_fields Low) (codes "get 0001") ≡ Some (Get 1)
unfolding command_of two_fields
command-get = refl

command-get_tab : command_of (two_fields Low) (codes "get\t0\r") ≡ Some (Get 0)
unfolding command_of two_fields
command-get_tab = refl

command-copy : command_of (two_fields Low) (codes "copy 0 2 1") ≡ Some (Copy 0 2 1)
unfolding command_of two_fields
command-copy = refl

command-swap : command_of (two_fields Low) (codes "swap 0 2") ≡ Some (Swap 0 2)
unfolding command_of two_fields
command-swap = refl

command-rotate : command_of (two_fields Low) (codes "rotate 0 3 1") ≡ Some (Rotate 0 3 1)
unfolding command_of two_fields
command-rotate = refl

command-dup : command_of (two_fields Low) (codes "dup 0 1") ≡ Some (Dup 0 1)
unfolding command_of two_fields
command-dup = refl

command-image : command_of (two_fields Low) (codes "image") ≡ Some Image
unfolding command_of two_fields
command-image = refl

command-too_few : command_of (two_fields Low) (codes "insert 0 5") ≡ None
unfolding command_of two_fields
command-too_few = refl

command-too_many : command_of (two_fields Low) (codes "insert 0 5 -1 1") ≡ None
unfolding command_of two_fields
command-too_many = refl

command-no_place : command_of (two_fields Low) (codes "insert") ≡ None
unfolding command_of two_fields
command-no_place = refl

command-plus : command_of (two_fields Low) (codes "insert 0 +1 0") ≡ None
unfolding command_of two_fields
command-plus = refl

command-signed_place : command_of (two_fields Low) (codes "insert -0 1 1") ≡ None
unfolding command_of two_fields
command-signed_place = refl

command-bare_sign : command_of (two_fields Low) (codes "insert 0 1 -") ≡ None
unfolding command_of two_fields
command-bare_sign = refl

command-delete_one : command_of (two_fields Low) (codes "delete 1") ≡ None
unfolding command_of two_fields
command-delete_one = refl

command-delete_three : command_of (two_fields Low) (codes "delete 1 2 3") ≡ None
unfolding command_of two_fields
command-delete_three = refl

command-get_none : command_of (two_fields Low) (codes "get") ≡ None
unfolding command_of two_fields
command-get_none = refl

command-get_two : command_of (two_fields Low) (codes "get 1 2") ≡ None
unfolding command_of two_fields
command-get_two = refl

command-get_signed : command_of (two_fields Low) (codes "get -0") ≡ None
unfolding command_of two_fields
command-get_signed = refl

command-set_plus : command_of (two_fields Low) (codes "set 0 a +1") ≡ None
unfolding command_of two_fields
command-set_plus = refl

command-set_upper : command_of (two_fields Low) (codes "set 0 A 1") ≡ None
unfolding command_of two_fields
command-set_upper = refl

command-set_digit : command_of (two_fields Low) (codes "set 0 1a 1") ≡ None
unfolding command_of two_fields
command-set_digit = refl

command-set_long : command_of (two_fields Low) (codes "set 0 abcdefghijklmnopq 1") ≡ None
unfolding command_of two_fields
command-set_long = refl

command-set_short : command_of (two_fields Low) (codes "set 0 a") ≡ None
unfolding command_of two_fields
command-set_short = refl

command-set_more : command_of (two_fields Low) (codes "set 0 a 1 1") ≡ None
unfolding command_of two_fields
command-set_more = refl

command-copy_two : command_of (two_fields Low) (codes "copy 0 1") ≡ None
unfolding command_of two_fields
command-copy_two = refl

command-swap_three : command_of (two_fields Low) (codes "swap 0 1 2") ≡ None
unfolding command_of two_fields
command-swap_three = refl

command-rotate_two : command_of (two_fields Low) (codes "rotate 0 1") ≡ None
unfolding command_of two_fields
command-rotate_two = refl

command-rotate_signed : command_of (two_fields Low) (codes "rotate 0 1 -1") ≡ None
unfolding command_of two_fields
command-rotate_signed = refl

command-dup_none : command_of (two_fields Low) (codes "dup") ≡ None
unfolding command_of two_fields
command-dup_none = refl

command-image_more : command_of (two_fields Low) (codes "image 1") ≡ None
unfolding command_of two_fields
command-image_more = refl

command-layout : command_of (two_fields Low) (codes "low a:u1") ≡ None
unfolding command_of two_fields
command-layout = refl

command-upper : command_of (two_fields Low) (codes "Image") ≡ None
unfolding command_of two_fields
command-upper = refl

command-line_end : command_of (two_fields Low) (codes "image\n") ≡ None
unfolding command_of two_fields
command-line_end = refl

command-keep : command_of (two_fields Low) (codes "keep") ≡ Some Keep
unfolding command_of two_fields
command-keep = refl

command-keep_more : command_of (two_fields Low) (codes "keep 0") ≡ None
unfolding command_of two_fields
command-keep_more = refl

command-back : command_of (two_fields Low) (codes " back") ≡ Some Back
unfolding command_of two_fields
command-back = refl

command-back_more : command_of (two_fields Low) (codes "back back") ≡ None
unfolding command_of two_fields
command-back_more = refl

command-load : command_of (two_fields Low) (codes "load 2 7d0d") ≡ Some (Load 2 (125 ∷ 13 ∷ []))
unfolding command_of two_fields hex_on_literals
command-load = refl

command-load_upper : command_of (two_fields Low) (codes "load 02 BE8c") ≡ Some (Load 2 (190 ∷ 140 ∷ []))
unfolding command_of two_fields hex_on_literals
command-load_upper = refl

command-load_none : command_of (two_fields Low) (codes "load 0") ≡ Some (Load 0 [])
unfolding command_of two_fields
command-load_none = refl

command-load_great : command_of (two_fields Low) (codes "load 18446744073709551616 00") ≡ Some (Load (2 ^ 64) (0 ∷ []))
unfolding command_of two_fields hex_on_literals
command-load_great = refl

command-load_no_count : command_of (two_fields Low) (codes "load") ≡ None
unfolding command_of two_fields
command-load_no_count = refl

command-load_odd : command_of (two_fields Low) (codes "load 2 7d0") ≡ None
unfolding command_of two_fields hex_on_literals
command-load_odd = refl

command-load_no_digit : command_of (two_fields Low) (codes "load 2 7d0g") ≡ None
unfolding command_of two_fields hex_on_literals
command-load_no_digit = refl

command-load_two_words : command_of (two_fields Low) (codes "load 2 7d 0d") ≡ None
unfolding command_of two_fields hex_on_literals
command-load_two_words = refl

command-load_signed : command_of (two_fields Low) (codes "load -0") ≡ None
unfolding command_of two_fields
command-load_signed = refl

command-mark_below : command_of (two_fields Low) (codes "mark x b < 0") ≡ Some (Mark 23 (Some 1) Below (pos 0))
unfolding command_of two_fields
command-mark_below = refl

command-mark_equal : command_of (two_fields Low) (codes "mark a a = -7") ≡ Some (Mark 0 (Some 0) Equal (neg_ℤ (pos 7)))
unfolding command_of two_fields
command-mark_equal = refl

command-mark_above : command_of (two_fields Low) (codes "mark z c > 007") ≡ Some (Mark 25 None Above (pos 7))
unfolding command_of two_fields
command-mark_above = refl

command-mark_short : command_of (two_fields Low) (codes "mark x b <") ≡ None
unfolding command_of two_fields
command-mark_short = refl

command-mark_more : command_of (two_fields Low) (codes "mark x b < 0 0") ≡ None
unfolding command_of two_fields
command-mark_more = refl

command-mark_joined : command_of (two_fields Low) (codes "mark x b <= 0") ≡ None
unfolding command_of two_fields
command-mark_joined = refl

command-mark_no_test : command_of (two_fields Low) (codes "mark x b ! 0") ≡ None
unfolding command_of two_fields
command-mark_no_test = refl

command-mark_upper : command_of (two_fields Low) (codes "mark X b < 0") ≡ None
unfolding command_of two_fields
command-mark_upper = refl

command-mark_two_letters : command_of (two_fields Low) (codes "mark xx b < 0") ≡ None
unfolding command_of two_fields
command-mark_two_letters = refl

command-mark_no_field : command_of (two_fields Low) (codes "mark x B < 0") ≡ None
unfolding command_of two_fields
command-mark_no_field = refl

command-mark_plus : command_of (two_fields Low) (codes "mark x b < +1") ≡ None
unfolding command_of two_fields
command-mark_plus = refl

command-and : command_of (two_fields Low) (codes "and x y") ≡ Some (Combine And 23 24)
unfolding command_of two_fields
command-and = refl

command-or : command_of (two_fields Low) (codes "or x x") ≡ Some (Combine Or 23 23)
unfolding command_of two_fields
command-or = refl

command-xor : command_of (two_fields Low) (codes "xor b a") ≡ Some (Combine Xor 1 0)
unfolding command_of two_fields
command-xor = refl

command-and_one : command_of (two_fields Low) (codes "and x") ≡ None
unfolding command_of two_fields
command-and_one = refl

command-or_three : command_of (two_fields Low) (codes "or x y z") ≡ None
unfolding command_of two_fields
command-or_three = refl

command-xor_number : command_of (two_fields Low) (codes "xor x 1") ≡ None
unfolding command_of two_fields
command-xor_number = refl

command-not : command_of (two_fields Low) (codes "not a") ≡ Some (Not 0)
unfolding command_of two_fields
command-not = refl

command-not_none : command_of (two_fields Low) (codes "not") ≡ None
unfolding command_of two_fields
command-not_none = refl

command-count : command_of (two_fields Low) (codes "count z") ≡ Some (Count 25)
unfolding command_of two_fields
command-count = refl

command-count_two : command_of (two_fields Low) (codes "count x y") ≡ None
unfolding command_of two_fields
command-count_two = refl

command-list : command_of (two_fields Low) (codes "list x") ≡ Some (Listing 23)
unfolding command_of two_fields
command-list = refl

command-list_capital : command_of (two_fields Low) (codes "list A") ≡ None
unfolding command_of two_fields
command-list_capital = refl

command-drop : command_of (two_fields Low) (codes "drop x") ≡ Some (Drop 23)
unfolding command_of two_fields
command-drop = refl

command-drop_two_bytes : command_of (two_fields Low) (codes "drop ab") ≡ None
unfolding command_of two_fields
command-drop_two_bytes = refl

command-none : command_of (two_fields Low) ([]) ≡ None
unfolding command_of two_fields
command-none = refl

command-byte : command_of (two_fields Low) (codes "þ") ≡ None
unfolding command_of two_fields
command-byte = refl

-- ---- cutting off

cut_place-under : cut_place (2 ^ 64 - 2) ≡ 2 ^ 64 - 2
cut_place-under = refl

cut_place-most : cut_place (2 ^ 64 - 1) ≡ 2 ^ 64 - 1
cut_place-most = refl

cut_place-past : cut_place (2 ^ 64) ≡ 2 ^ 64 - 1
cut_place-past = refl

cut_value-under : cut_value (pos (2 ^ 64 - 1)) ≡ pos (2 ^ 64 - 1)
cut_value-under = refl

cut_value-most : cut_value (pos (2 ^ 64)) ≡ pos (2 ^ 64)
cut_value-most = refl

cut_value-past : cut_value (pos (2 ^ 64 + 5)) ≡ pos (2 ^ 64)
cut_value-past = refl

cut_value-least : cut_value (neg_ℤ (pos (2 ^ 64))) ≡ neg_ℤ (pos (2 ^ 64))
cut_value-least = refl

cut_value-below : cut_value (neg_ℤ (pos (2 ^ 64 + 1))) ≡ neg_ℤ (pos (2 ^ 64))
cut_value-below = refl

cut_off-insert : cut_off (Insert (2 ^ 64) (pos (2 ^ 64 + 5) ∷ [])) ≡ Insert (2 ^ 64 - 1) (pos (2 ^ 64) ∷ [])
cut_off-insert = refl

cut_off-rotate : cut_off (Rotate 1 (2 ^ 64) (2 ^ 65)) ≡ Rotate 1 (2 ^ 64 - 1) (2 ^ 64 - 1)
cut_off-rotate = refl

cut_off-set : cut_off (Set (2 ^ 64) (Some 3) (neg_ℤ (pos (2 ^ 65))))
    ≡ Set (2 ^ 64 - 1) (Some 3) (neg_ℤ (pos (2 ^ 64)))
cut_off-set = refl

cut_off-load : cut_off (Load (2 ^ 64) (7 ∷ [])) ≡ Load (2 ^ 64 - 1) (7 ∷ [])
cut_off-load = refl

cut_off-mark : cut_off (Mark 3 (Some 1) Above (pos (2 ^ 64 + 5))) ≡ Mark 3 (Some 1) Above (pos (2 ^ 64))
cut_off-mark = refl

-- ---- edits of any rows: they go whole, with their letters

edited-insert : (a b c d : Row) → edited (a ∷ b ∷ c ∷ d ∷ []) (Insert 1 []) ≡ a ∷ new_row [] ∷ b ∷ c ∷ d ∷ []
edited-insert a b c d = refl

edited-insert_last : (a b c d : Row) → edited (a ∷ b ∷ c ∷ d ∷ []) (Insert 4 []) ≡ a ∷ b ∷ c ∷ d ∷ new_row [] ∷ []
edited-insert_last a b c d = refl

edited-delete : (a b c d : Row) → edited (a ∷ b ∷ c ∷ d ∷ []) (Delete 1 3) ≡ a ∷ d ∷ []
edited-delete a b c d = refl

edited-delete_none : (a b c d : Row) → edited (a ∷ b ∷ c ∷ d ∷ []) (Delete 2 2) ≡ a ∷ b ∷ c ∷ d ∷ []
edited-delete_none a b c d = refl

edited-delete_all : (a b c d : Row) → edited (a ∷ b ∷ c ∷ d ∷ []) (Delete 0 4) ≡ []
edited-delete_all a b c d = refl

edited-get : (a b c d : Row) → edited (a ∷ b ∷ c ∷ d ∷ []) (Get 1) ≡ a ∷ b ∷ c ∷ d ∷ []
edited-get a b c d = refl

edited-copy_up : (a b c d : Row) → edited (a ∷ b ∷ c ∷ d ∷ []) (Copy 0 2 1) ≡ a ∷ a ∷ b ∷ d ∷ []
edited-copy_up a b c d = refl

edited-copy_down : (a b c d : Row) → edited (a ∷ b ∷ c ∷ d ∷ []) (Copy 1 4 0) ≡ b ∷ c ∷ d ∷ d ∷ []
edited-copy_down a b c d = refl

edited-copy_none : (a b c d : Row) → edited (a ∷ b ∷ c ∷ d ∷ []) (Copy 2 2 4) ≡ a ∷ b ∷ c ∷ d ∷ []
edited-copy_none a b c d = refl

edited-swap : (a b c d : Row) → edited (a ∷ b ∷ c ∷ d ∷ []) (Swap 0 2) ≡ c ∷ b ∷ a ∷ d ∷ []
edited-swap a b c d = refl

edited-swap_back : (a b c d : Row) → edited (a ∷ b ∷ c ∷ d ∷ []) (Swap 3 1) ≡ a ∷ d ∷ c ∷ b ∷ []
edited-swap_back a b c d = refl

edited-swap_same : (a b c d : Row) → edited (a ∷ b ∷ c ∷ d ∷ []) (Swap 1 1) ≡ a ∷ b ∷ c ∷ d ∷ []
edited-swap_same a b c d = refl

edited-rotate : (a b c d : Row) → edited (a ∷ b ∷ c ∷ d ∷ []) (Rotate 0 4 1) ≡ b ∷ c ∷ d ∷ a ∷ []
edited-rotate a b c d = refl

edited-rotate_part : (a b c d : Row) → edited (a ∷ b ∷ c ∷ d ∷ []) (Rotate 1 4 2) ≡ a ∷ d ∷ b ∷ c ∷ []
edited-rotate_part a b c d = refl

edited-rotate_none : (a b c d : Row) → edited (a ∷ b ∷ c ∷ d ∷ []) (Rotate 1 3 0) ≡ a ∷ b ∷ c ∷ d ∷ []
edited-rotate_none a b c d = refl

edited-rotate_whole : (a b c d : Row) → edited (a ∷ b ∷ c ∷ d ∷ []) (Rotate 1 3 2) ≡ a ∷ b ∷ c ∷ d ∷ []
edited-rotate_whole a b c d = refl

edited-dup : (a b c d : Row) → edited (a ∷ b ∷ c ∷ d ∷ []) (Dup 1 3) ≡ a ∷ b ∷ c ∷ d ∷ b ∷ c ∷ []
edited-dup a b c d = refl

edited-dup_none : (a b c d : Row) → edited (a ∷ b ∷ c ∷ d ∷ []) (Dup 4 4) ≡ a ∷ b ∷ c ∷ d ∷ []
edited-dup_none a b c d = refl

edited-set : (a b c : Row) → edited (a ∷ record b { numbers = pos 1 ∷ pos 2 ∷ [] } ∷ c ∷ []) (Set 1 (Some 1) (pos 9))
    ≡ a ∷ record b { numbers = pos 1 ∷ pos 9 ∷ [] } ∷ c ∷ []
edited-set a b c = refl

-- ---- lines over a table, one after another

-- the answer to a line that this cause refuses, or none does
told : Option Cause → TableShape → Option Command → List ℕ
told (Some cause) t c = refusal_text cause
told None t None = []
told None t (Some c) = reply_text (reply_to t c)

-- the table that a line leaves
next : Option Cause → TableShape → Option Command → TableShape
next (Some cause) t c = t
next None t None = t
next None t (Some c) = edit t c

-- the answers to lines
answers : TableShape → List (List ℕ) → List ℕ
answers t [] = []
answers t (line ∷ rest) =
    told (line_cause (Some t) line) t (command_of t.layout line)
    ++ answers (next (line_cause (Some t) line) t (command_of t.layout line)) rest

-- the answers to the lines of a text
answered : TableShape → List ℕ → List ℕ
answered t text = answers t (slice_split (λ b. b == 10) text)

-- what computes answers at a literal
unfoldable on_literals : ⊤
unfolding two_fields one_field signed_field wide_fields two_rows told next answers answered
    command_of cause_in hex_on_literals digits
on_literals = tt

answered-image_low : answered (two_rows Low)
    (codes "image")
    ≡ codes "2 7d0d\n"
unfolding on_literals
answered-image_low = refl

answered-image_high : answered (two_rows High)
    (codes "image")
    ≡ codes "2 be8c\n"
unfolding on_literals
answered-image_high = refl

answered-insert_then_delete : answered (two_rows High)
    (codes "insert 1 0 -8\nimage\ndelete 0 1\nimage")
    ≡ codes "ok\n3 be2118\nok\n2 108c\n"
unfolding on_literals
answered-insert_then_delete = refl

answered-rotate : answered (two_rows High)
    (codes "insert 1 0 -8\nrotate 0 3 1\nimage\nrotate 0 3 2\nimage")
    ≡ codes "ok\nok\n3 108ef8\nok\n3 be2118\n"
unfolding on_literals
answered-rotate = refl

answered-dup : answered (two_rows High)
    (codes "dup 0 1\nimage")
    ≡ codes "ok\n3 be8ef8\n"
unfolding on_literals
answered-dup = refl

answered-rotate_two : answered (two_rows High)
    (codes "rotate 0 2 1\nimage")
    ≡ codes "ok\n2 477c\n"
unfolding on_literals
answered-rotate_two = refl

answered-set : answered (two_rows High)
    (codes "set 1 a 7\nimage\nget 0\nget 1")
    ≡ codes "ok\n2 bfcc\n5 -1\n7 3\n"
unfolding on_literals
answered-set = refl

answered-ones : answered (new_table (one_field Low 1))
    (codes "image\ninsert 0 0\ninsert 0 0\ninsert 0 0\nimage\ninsert 0 0\nimage")
    ≡ codes "0\nok\nok\nok\n3 00\nok\n4 00\n"
unfolding on_literals
answered-ones = refl

answered-out_of_range : answered (two_rows High)
    (codes "delete 1 0\ndelete 0 3\nrotate 0 1 2\ncopy 0 2 1\nswap 0 2\nget 2\ndup 0 3\ndup 1 0")
    ≡ codes "refused row\nrefused row\nrefused row\nrefused row\n"
    ++ codes "refused row\nrefused row\nrefused row\nrefused row\n"
unfolding on_literals
answered-out_of_range = refl

answered-nothing_goes : answered (two_rows High)
    (codes "delete 1 1\nimage\ncopy 0 1 1\nimage\nset 0 c 1")
    ≡ codes "ok\n2 be8c\nok\n2 bf7c\nrefused field\n"
unfolding on_literals
answered-nothing_goes = refl

answered-order_of_causes : answered (two_rows High)
    (codes "set 9 c 99\nset 9 a 99\ninsert 3 8 0\ninsert 0 8 0\ninsert 0 5\n"
    ++ codes "get -0\nset 0 a +1\nset 0 A 1\nget 0001\nget\t0\r")
    ≡ codes "refused field\nrefused row\nrefused row\nrefused value\nrefused form\n"
    ++ codes "refused form\nrefused form\nrefused form\n2 3\n5 -1\n"
unfolding on_literals
answered-order_of_causes = refl

answered-no_commands : answered (two_rows High)
    (codes "low a:u1\nþ\ninsert 0 8 0\nimage")
    ≡ codes "refused form\nrefused form\nrefused value\n2 be8c\n"
unfolding on_literals
answered-no_commands = refl

answered-great_numbers : answered (two_rows High)
    (codes "get 18446744073709551616\nswap 0 18446744073709551616\n"
    ++ codes "set 0 a 18446744073709551616\ndelete 0 99999999999999999999")
    ≡ codes "refused row\nrefused row\nrefused value\nrefused row\n"
unfolding on_literals
answered-great_numbers = refl

answered-least : answered (new_table (signed_field High))
    (codes "insert 0 -9223372036854775808\nimage\nget 0\ninsert 0 9223372036854775808")
    ≡ codes "ok\n1 8000000000000000\n-9223372036854775808\nrefused value\n"
unfolding on_literals
answered-least = refl

answered-wide_low : answered (new_table (wide_fields Low)) (codes "insert 0 7 18446744073709551615\nimage\nget 0")
    ≡ codes "ok\n1 ffffffffffffffff07\n7 18446744073709551615\n"
unfolding on_literals
answered-wide_low = refl

answered-wide_high : answered (new_table (wide_fields High)) (codes "insert 0 7 18446744073709551615\nimage")
    ≡ codes "ok\n1 ffffffffffffffffe0\n"
unfolding on_literals
answered-wide_high = refl

answered-kept : answered (two_rows High)
    (codes "back\nkeep\ndelete 0 2\nimage\nback\nimage\nback")
    ≡ codes "refused kept\nok\nok\n0\nok\n2 be8c\nrefused kept\n"
unfolding on_literals
answered-kept = refl

-- what is kept last comes back
answered-kept_again : answered (two_rows High)
    (codes "keep\ndelete 0 1\nkeep\ndup 0 1\nset 0 a 7\nback\nimage\nback")
    ≡ codes "ok\nok\nok\nok\nok\nok\n1 46\nrefused kept\n"
unfolding on_literals
answered-kept_again = refl

answered-load : answered (two_rows High)
    (codes "load 2 be8d\nload 2 BE8C\nload 3 be8c\nload 2 be8\nload 2\nload 0 00\nload 0\nimage")
    ≡ codes "refused image\nok\nrefused image\nrefused form\nrefused image\nrefused image\nok\n0\n"
unfolding on_literals
answered-load = refl

answered-order_of_mark : answered (two_rows High)
    (codes "mark x c < 99\nmark x a < 8\nmark x a < -1\nmark x a < 18446744073709551616\nmark x b < 0")
    ≡ codes "refused field\nrefused value\nrefused value\nrefused value\nok\n"
unfolding on_literals
answered-order_of_mark = refl

-- ---- room for rows that are loaded: 2 ^ 61 - 1 bits have it, and one bit more has none

full-load : (t : TableShape) (n : ℕ) (bytes : List ℕ) (full : Bool)
    → nat_lt MAX_BITS (n * row_width t.layout.fields) ≡ full → too_full t (Load n bytes) ≡ full
full-load t n bytes full h =
    ap (λ m. nat_lt MAX_BITS (m * row_width t.layout.fields)) (length-rows_in_bytes t.layout n bytes) ∙ h

full-ones_past : too_full (new_table (one_field Low 1)) (Load 2305843009213693952 (0 ∷ [])) ≡ true
unfolding one_field
full-ones_past = full-load (new_table (one_field Low 1)) 2305843009213693952 (0 ∷ []) true refl

full-ones : too_full (new_table (one_field Low 1)) (Load 2305843009213693951 (0 ∷ [])) ≡ false
unfolding one_field
full-ones = full-load (new_table (one_field Low 1)) 2305843009213693951 (0 ∷ []) false refl

full-sevens_past : too_full (two_rows High) (Load 329406144173384851 (0 ∷ [])) ≡ true
unfolding two_rows two_fields
full-sevens_past = full-load (two_rows High) 329406144173384851 (0 ∷ []) true refl

full-sevens : too_full (two_rows High) (Load 329406144173384850 (0 ∷ [])) ≡ false
unfolding two_rows two_fields
full-sevens = full-load (two_rows High) 329406144173384850 (0 ∷ []) false refl

-- ---- numbers compared, with their sign

passes-below : passes Below (neg_ℤ (pos 1)) (pos 0) ≡ true
passes-below = refl

passes-below_same : passes Below (pos 3) (pos 3) ≡ false
passes-below_same = refl

passes-equal : passes Equal (neg_ℤ (pos 8)) (neg_ℤ (pos 8)) ≡ true
passes-equal = refl

passes-equal_sign : passes Equal (neg_ℤ (pos 8)) (pos 8) ≡ false
passes-equal_sign = refl

passes-above : passes Above (pos 3) (neg_ℤ (pos 1)) ≡ true
passes-above = refl

passes-above_same : passes Above (neg_ℤ (pos 1)) (neg_ℤ (pos 1)) ≡ false
passes-above_same = refl

-- ---- marks, and the rows that bear them

listed-below : rows_passing (row_bears 23) 0 (edited (two_rows High).rows (Mark 23 (Some 1) Below (pos 0))) ≡ 0 ∷ []
unfolding two_rows
listed-below =
    rows_passing-marked 23 (λ row. passes Below (number_in_field (Some 1) row) (pos 0)) 0 (two_rows High).rows

listed-equal : rows_passing (row_bears 23) 0 (edited (two_rows High).rows (Mark 23 (Some 0) Equal (pos 5))) ≡ 0 ∷ []
unfolding two_rows
listed-equal =
    rows_passing-marked 23 (λ row. passes Equal (number_in_field (Some 0) row) (pos 5)) 0 (two_rows High).rows

listed-above : rows_passing (row_bears 24) 0 (edited (two_rows High).rows (Mark 24 (Some 1) Above (pos 0))) ≡ 1 ∷ []
unfolding two_rows
listed-above =
    rows_passing-marked 24 (λ row. passes Above (number_in_field (Some 1) row) (pos 0)) 0 (two_rows High).rows

listed-not : (rows : List Row) → rows_passing (row_bears 23) 0 (edited rows (Not 23))
    ≡ rows_passing (λ row. not (row_bears 23 row)) 0 rows
listed-not rows = rows_passing-marked 23 (λ row. not (row_bears 23 row)) 0 rows

listed-or : (rows : List Row) → rows_passing (row_bears 23) 0 (edited rows (Combine Or 23 24))
    ≡ rows_passing (λ row. row_bears 23 row || row_bears 24 row) 0 rows
listed-or rows = rows_passing-marked 23 (λ row. combined Or (row_bears 23 row) (row_bears 24 row)) 0 rows

-- ---- the text of row numbers and counts

text-rows : reply_text (answer.Rows (0 ∷ 7 ∷ 12 ∷ [])) ≡ codes "0 7 12\n"
unfolding digits
text-rows = refl

text-no_rows : reply_text (answer.Rows []) ≡ codes "none\n"
text-no_rows = refl

text-count : reply_text (answer.Count 0) ≡ codes "0\n"
unfolding digits
text-count = refl
