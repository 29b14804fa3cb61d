-- Known numbers and their bits, computed on the definitions.
use Rattle.std.proofs.Common.{◌≡◌, true, false, [], ◌∷◌, pos, negsuc, refl}
use Rattle.bit_table_layout.specs.declared.layout.Rule.TheVariants.{Low, High}
use Rattle.bit_table_layout.specs.Rows.{field_bits}
use Rattle.bit_table_fields.specs.Windows.{number_held, is_held, most_for}

-- 5 is 101, -1 in four digits is 1111, -3 in four digits is 1101
five_low : field_bits Low 4 (pos 5) ≡ true ∷ false ∷ true ∷ false ∷ []
five_low = refl

five_high : field_bits High 4 (pos 5) ≡ false ∷ true ∷ false ∷ true ∷ []
five_high = refl

low_held : number_held Low false 4 (true ∷ false ∷ true ∷ true ∷ []) ≡ pos 13
low_held = refl

high_held : number_held High false 4 (true ∷ false ∷ true ∷ true ∷ []) ≡ pos 11
high_held = refl

low_held_signed : number_held Low true 4 (true ∷ false ∷ true ∷ true ∷ []) ≡ negsuc 2
low_held_signed = refl

high_held_signed : number_held High true 4 (true ∷ false ∷ true ∷ true ∷ []) ≡ negsuc 4
high_held_signed = refl

one_digit_signed : number_held Low true 1 (true ∷ []) ≡ negsuc 0
one_digit_signed = refl

-- four digits, one of them the sign's, go from -8 to 7
least_held : is_held true 4 (negsuc 7) ≡ true
least_held = refl

less_is_not : is_held true 4 (negsuc 8) ≡ false
less_is_not = refl

greatest_held : is_held true 4 (pos 7) ≡ true
greatest_held = refl

more_is_not : is_held true 4 (pos 8) ≡ false
more_is_not = refl

-- 64 bits from place 3 on touch nine bytes, or two words of 64
nine_bytes : most_for true 8 3 64 ≡ 9
nine_bytes = refl

two_words : most_for true 64 3 64 ≡ 2
two_words = refl

a_step_a_bit : most_for false 8 3 64 ≡ 64
a_step_a_bit = refl
