-- The private steps of reading a command. No public clause cites this module.
use Rattle.std.specs.Prelude.{ℕ, zero, suc, ◌%◌, ◌==◌, ◌&&◌, true, false, is_some, ℤ, pos, Bool, List, [], ◌∷◌, map}
use Rattle.std.specs.Prelude.{length, Option, unwrap_or, option_map}
use Rattle.std.specs.Char.{is_ascii_hexdigit}
use Rattle.std.specs.List.{list_all}
use Rattle.std.specs.Result.{result_unwrap_or}
use Rattle.hex.specs.Hex.{decode_of}
use Rattle.bit_table_layout.specs.LineWordsLeft.{words_left}
use Rattle.bit_table_layout.specs.Numerals.{whole_number_in}
use Rattle.bit_table_commands.specs.declared.command.Command.{Command}
use Rattle.bit_table_commands.specs.declared.command.Command.TheVariants.{Insert, Load}
use Rattle.bit_table_commands.specs.declared.reading.Reading.{Reading}
use Rattle.bit_table_commands.specs.declared.reading.Reading.TheVariants as read
use Rattle.bit_table_commands.specs.declared.test.Test.{Test}
use Rattle.bit_table_commands.specs.Commands.{cut_place, cut_value}

-- numbers as they are kept
abbrev pub cut_two : ℕ × ℕ → ℕ × ℕ
cut_two pq = (cut_place pq.0, cut_place pq.1)

abbrev pub cut_three : ℕ × ℕ × ℕ → ℕ × ℕ × ℕ
cut_three pqr = (cut_place pqr.0, cut_place pqr.1, cut_place pqr.2)

abbrev pub cut_field : Option ℕ × ℤ → Option ℕ × ℤ
cut_field fv = (fv.0, cut_value fv.1)

abbrev pub cut_test : Test × ℤ → Test × ℤ
cut_test tv = (tv.0, cut_value tv.1)

abbrev pub cut_field_test : Option ℕ × Test × ℤ → Option ℕ × Test × ℤ
cut_field_test ftv = (ftv.0, ftv.1, cut_value ftv.2)

-- whether a word is hexadecimal digits, two a byte
abbrev pub are_digits : List ℕ → Bool
are_digits word = length word % 2 == 0 && list_all is_ascii_hexdigit word

-- the bytes of hexadecimal digits, or none where they are no such digits
abbrev pub bytes_of_digits : List ℕ → List ℕ
bytes_of_digits digits = result_unwrap_or (decode_of digits) []

-- the value of a word as it is kept, or 0 where the word spells none
abbrev pub value_in : List ℕ → ℤ
value_in word = unwrap_or (option_map cut_value (whole_number_in word)) (pos 0)

-- whether there are so many words, and each spells a whole number
abbrev pub are_values : ℕ → List (List ℕ) → Bool
are_values zero [] = true
are_values (suc n) [] = false
are_values zero (word ∷ rest) = false
are_values (suc n) (word ∷ rest) = is_some (whole_number_in word) && are_values n rest

-- the command that a reading makes
abbrev pub command_read : Reading → Command
command_read (read.Insert place words) = Insert place (map value_in (words_left words))
command_read (read.Load count digits) = Load count (bytes_of_digits digits.now)
command_read (read.Ready c) = c
