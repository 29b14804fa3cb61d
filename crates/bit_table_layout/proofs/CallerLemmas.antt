-- What callers know of the bits of a row, of the rows that bytes hold, and of the words of a line.
use Rattle.std.proofs.Common.{◌≡◌, ℕ, ◌≤◌, List, [], ◌∷◌, IsTrue}
use Rattle.std.proofs.lemmas.Bool.{and_parts, leb-true}
use Rattle.bit_table_layout.specs.declared.layout.TheConstants.{MAX_ROW_BITS}
use Rattle.std.specs.Iterator.{AlwaysYields, YieldsFirstRef}
use Rattle.std.proofs.lemmas.Iterator.{YieldsList}
use Rattle.bit_table_layout.specs.declared.line_words.Words.{Words as LineWords}
use Rattle.bit_table_layout.specs.LineWordsLeft.{words_left}
use Rattle.bit_table_layout.specs.Layouts.{LayoutShape, row_width, is_layout}
-- the rows of any bytes are rows of the layout, as many as are asked for; those of an image have its first bits
pub use Rattle.bit_table_layout.proofs.LoadLemmas.{are_rows-rows_in_bytes, length-rows_in_bytes}
pub use Rattle.bit_table_layout.proofs.LoadLemmas.{table_bits-rows_in_bytes, length-is_image}

-- a row has 1 to `MAX_ROW_BITS` bits
pub row_width-bounds : (l : LayoutShape) → IsTrue (is_layout l)
    → (1 ≤ row_width l.fields) × (row_width l.fields ≤ MAX_ROW_BITS)
row_width-bounds l lawful =
    let bits = and_parts _ _ (and_parts _ _ (and_parts _ _ lawful).1).1 in
    (leb-true 1 (row_width l.fields) bits.0, leb-true (row_width l.fields) MAX_ROW_BITS bits.1)

always_yields : (ws : List (List ℕ)) (w : LineWords) → words_left w ≡ ws
    → AlwaysYields (YieldsFirstRef words_left) (λ word. word.now) w ws
always_yields [] w is = λ word next step. absurd cc
always_yields (first ∷ ws) w is = (
  λ next step. let none = step.0 in absurd cc,
  λ word next step.
      let same : word.now ≡ first = cc in
      let rest : words_left next ≡ ws = cc in
      (same, always_yields ws next rest),
)

-- a chain over the words of a line gives those that are left
pub YieldsList-from_words : {w : LineWords} (ws : List (List ℕ)) → words_left w ≡ ws
    → YieldsList (YieldsFirstRef words_left) (λ word. word.now) w ws
YieldsList-from_words {w} ws is = record { runs = always_yields ws w is }
