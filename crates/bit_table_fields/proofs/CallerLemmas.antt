-- What callers of loads and stores need: n bits hold each number of n digits, and no other.
--
-- A number that was stored is loaded: `held_back`, `loaded_back`, of a part of a list by `part_stored`. What was loaded
-- is a number of so many digits, and stored again gives the bits back: `held_fits`, `held_bits`.
use Rattle.std.proofs.Common.{◌≡◌, ℕ, ◌+◌, ◌≤◌, Bool, true, List, [], ◌∷◌, length, ℤ, arith, le-leb}
use Rattle.std.specs.Prelude.{nat_le}
use Rattle.std.proofs.lemmas.Bool.{and_from}
use Rattle.std.proofs.lemmas.List.{places, same_lists}
use Rattle.bit_addressing_memory.specs.Memory.{piece, with_piece}
use Rattle.bit_table_layout.specs.declared.layout.Rule.{Rule}
use Rattle.bit_table_layout.specs.Fields.{FieldShape, is_field}
use Rattle.bit_table_layout.specs.Rows.{field_bits}
use Rattle.bit_table_layout.proofs.ReadingLemmas.{number_from-field_bits, field_bits-number_from, takes-number_from}
use Rattle.bit_table_fields.specs.Windows.{number_held, is_held}

-- a field of so many bits, with a name
abbrev field_of : Bool → ℕ → FieldShape
field_of signed n = record { name = 97 ∷ []; width = n; signed = signed }

is_field_of : (signed : Bool) (n : ℕ) → 1 ≤ n → n ≤ 64 → is_field (field_of signed n) ≡ true
is_field_of signed n some narrow = and_from (nat_le 1 n) (nat_le n 64) (le-leb 1 n some) (le-leb n 64 narrow)

pub held_back : (rule : Rule) (signed : Bool) (n : ℕ) (v : ℤ) → 1 ≤ n → n ≤ 64 → is_held signed n v ≡ true
    → number_held rule signed n (field_bits rule n v) ≡ v
held_back rule signed n v some narrow fits =
    number_from-field_bits rule (field_of signed n) v (is_field_of signed n some narrow) fits

pub held_bits : (rule : Rule) (signed : Bool) (n : ℕ) (bits : List Bool) → length bits ≡ n
    → field_bits rule n (number_held rule signed n bits) ≡ bits
held_bits rule signed n bits size = field_bits-number_from rule (field_of signed n) bits size

pub held_fits : (rule : Rule) (signed : Bool) (n : ℕ) (bits : List Bool) → 1 ≤ n → n ≤ 64 → length bits ≡ n
    → is_held signed n (number_held rule signed n bits) ≡ true
held_fits rule signed n bits some narrow size =
    takes-number_from rule (field_of signed n) bits (is_field_of signed n some narrow) size

-- the same of bits that a caller knows to be a number's
pub loaded_back : (rule : Rule) (signed : Bool) (n m : ℕ) (v stored : ℤ) (bits : List Bool) → 1 ≤ n → n ≤ 64 → m ≡ n
    → bits ≡ field_bits rule n stored → stored ≡ v → is_held signed n v ≡ true → number_held rule signed m bits ≡ v
loaded_back rule signed n m v stored bits some narrow size same is fits =
    rw (size, same, is) (held_back rule signed n v some narrow fits)

-- a part that was written over holds what was written
pub part_stored : (xs ys : List Bool) (a n : ℕ) → length ys ≡ n → a + n ≤ length xs
    → piece (with_piece xs a ys) a n ≡ ys
unfolding piece with_piece
part_stored xs ys a n size fits = same_lists _ _ (grind (arith, places)) (λ k d h. grind (arith, places))
