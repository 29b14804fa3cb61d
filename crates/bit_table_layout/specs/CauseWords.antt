-- The words and the answer lines of causes.
use Rattle.std.specs.Prelude.{ℕ, List, ◌++◌, codes}
use Rattle.bit_table_layout.specs.declared.cause.Cause.{Cause}
use Rattle.bit_table_layout.specs.declared.cause.Cause.TheVariants.{Layout, Form, Field, Row, Value, Full, Image, Kept}

-- the word that an answer prints for a cause
abbrev pub cause_word : Cause → List ℕ
cause_word Layout = codes "layout"
cause_word Form = codes "form"
cause_word Field = codes "field"
cause_word Row = codes "row"
cause_word Value = codes "value"
cause_word Full = codes "full"
cause_word Image = codes "image"
cause_word Kept = codes "kept"

-- the answer line of a refusal, with its line end
abbrev pub refusal_text : Cause → List ℕ
refusal_text cause = codes "refused " ++ (cause_word cause ++ codes "\n")
