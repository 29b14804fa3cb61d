-- Known letters, computed: a wrong rule among the definitions does not check.
use Rattle.std.proofs.Common.{◌≡◌, true, false, Some, None, refl}
use Rattle.bit_table_layout.specs.declared.bool_op.BoolOp.TheVariants.{And, Or, Xor}
use Rattle.bit_table_layout.specs.Letters.{letter_of, combined}

-- `a` and `z`, and the bytes beside them; `A`
letter-first : letter_of 97 ≡ Some 0
letter-first = refl

letter-last : letter_of 122 ≡ Some 25
letter-last = refl

letter-before : letter_of 96 ≡ None
letter-before = refl

letter-past : letter_of 123 ≡ None
letter-past = refl

letter-capital : letter_of 65 ≡ None
letter-capital = refl

-- what two bits make, where they differ and where they do not
and-one : combined And true false ≡ false
and-one = refl

and-both : combined And true true ≡ true
and-both = refl

or-one : combined Or false true ≡ true
or-one = refl

or-none : combined Or false false ≡ false
or-none = refl

xor-one : combined Xor true false ≡ true
xor-one = refl

xor-both : combined Xor true true ≡ false
xor-both = refl
