-- The text of replies.
use Rattle.std.specs.Prelude.{ℕ, List, [], ◌∷◌, ◌++◌, codes, map, decimal}
use Rattle.std.specs.Fmt.{signed_decimal}
use Rattle.std.specs.List.{join_with_byte}
use Rattle.bit_table_layout.specs.Images.{image_line}
use Rattle.bit_table_commands.specs.declared.reply.Reply.{Reply}
use Rattle.bit_table_commands.specs.declared.reply.Reply.TheVariants.{Done, Numbers, Count, Rows, Image}

-- row numbers in decimal with a space between each two, or `none`
abbrev pub row_numbers : List ℕ → List ℕ
row_numbers [] = codes "none"
row_numbers (row ∷ rows) = join_with_byte 32 (map decimal (row ∷ rows))

-- the answer of a command that was carried out
abbrev pub reply_words : Reply → List ℕ
reply_words Done = codes "ok"
reply_words (Numbers numbers) = join_with_byte 32 (map signed_decimal numbers)
reply_words (Count count) = decimal count
reply_words (Rows rows) = row_numbers rows
reply_words (Image rows bytes) = image_line rows bytes

-- the answer line of a command that was carried out, with its line end
abbrev pub reply_text : Reply → List ℕ
reply_text reply = reply_words reply ++ codes "\n"
