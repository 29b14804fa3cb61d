-- Letters, and what two bits make.
use Rattle.std.specs.Prelude.{ℕ, ◌-◌, ◌&&◌, ◌||◌, nat_le, not, Bool, true, false, Option, Some, None, if◌then◌else◌}
use Rattle.bit_table_layout.specs.declared.bool_op.BoolOp.{BoolOp}
use Rattle.bit_table_layout.specs.declared.bool_op.BoolOp.TheVariants.{And, Or, Xor}

-- the letter that a byte is, as its place in the alphabet, if it is one: 97 is `a`, 122 is `z`
abbrev pub letter_of : ℕ → Option ℕ
letter_of byte = if nat_le 97 byte && nat_le byte 122 then Some (byte - 97) else None

-- exactly one of two bits
abbrev pub differ : Bool → Bool → Bool
differ true other = not other
differ false other = other

-- what an operation makes of two bits
abbrev pub combined : BoolOp → Bool → Bool → Bool
combined And one other = one && other
combined Or one other = one || other
combined Xor one other = differ one other
