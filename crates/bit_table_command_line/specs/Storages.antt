-- The storages that names name.
use Rattle.std.specs.Prelude.{ℕ, List, [], ◌∷◌, map, Option, Some, None, if◌then◌else◌}
use Rattle.std.specs.Str.{bytes_eq}
use Rattle.std.specs.Borrow.{Bor}
use Rattle.bit_table_layout.specs.declared.storage.Word.{Word}
use Rattle.bit_table_layout.specs.declared.storage.Word.TheVariants.{U64}
use Rattle.bit_table_layout.specs.declared.storage.Order.{Order}
use Rattle.bit_table_layout.specs.declared.storage.Order.TheVariants.{Lsb0}
use Rattle.bit_table_command_line.specs.declared.storage.TheConstants.{WORDS, ORDERS}

-- a list of names, each with what it names
abbrev pub rows_of_names : {X : Type 0} → List (Bor (List ℕ) × X) → List (List ℕ × X)
rows_of_names rows = map (λ row. (row.0.now, row.1)) rows

-- what the first row of this name has, x where there is none
abbrev pub named : {X : Type 0} → List (List ℕ × X) → X → List ℕ → X
named [] x name = x
named (row ∷ rows) x name = if bytes_eq row.0 name then row.1 else named rows x name

-- what a name names, x where there is none or no row has it
abbrev pub value_of : {X : Type 0} → List (List ℕ × X) → X → Option (List ℕ) → X
value_of rows x None = x
value_of rows x (Some name) = named rows x name

-- the storage words by name, in the order of their widths, and the orders
abbrev pub words : List (List ℕ × Word)
words = map (λ row. (row.0.now, row.1)) WORDS

abbrev pub orders : List (List ℕ × Order)
orders = map (λ row. (row.0.now, row.1)) ORDERS

-- their names
abbrev pub word_names : List (List ℕ)
word_names = map (λ row. row.0) words

abbrev pub order_names : List (List ℕ)
order_names = map (λ row. row.0) orders

-- the word of a name, `u64` where there is none
abbrev pub word_of : Option (List ℕ) → Word
word_of = value_of words U64

-- the order of a name, `lsb0` where there is none
abbrev pub order_of : Option (List ℕ) → Order
order_of = value_of orders Lsb0
