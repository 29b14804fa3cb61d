-- Hexadecimal digits of either case, two a byte.
use Rattle.std.proofs.Common.{◌≡◌, ℕ, ◌%◌, ◌==◌, ◌&&◌, ◌||◌, Bool, true, false, List, [], ◌∷◌, length}
use Rattle.std.proofs.Common.{None, Some, Result, Ok, Err, is_some, cond, refl, sym, ap, ◌∙◌}
use Rattle.std.specs.Prelude.{nat_le}
use Rattle.std.specs.Char.{is_ascii_hexdigit}
use Rattle.std.specs.List.{list_all}
use Rattle.std.specs.Result.{result_ok}
use Rattle.std.proofs.lemmas.Bool.{and_parts, eq-eqb, eqb-true}
use Rattle.std.proofs.lemmas.List.Sums.{AllPass-from_list_all, list_all-from_AllPass}
use Rattle.hex.specs.Hex.{decode_of, decode_pairs, is_hex_digit}
use Rattle.hex.specs.declared.error.FromHexError.{FromHexError}
use Rattle.hex.proofs.HexLemmas.{decode_of-ok, decode_of-digits}
use Rattle.bit_table_commands.specs.CommandSteps.{are_digits, bytes_of_digits}

-- no digits are no bytes
pub no_digits : [] ≡ bytes_of_digits []
unfolding decode_pairs
no_digits = refl

by_class : (upper lower digit : Bool) (x y z : ℕ)
    → is_some (cond upper (Some x) (cond lower (Some y) (cond digit (Some z) None))) ≡ ((digit || upper) || lower)
by_class true lower true x y z = refl
by_class true lower false x y z = refl
by_class false true true x y z = refl
by_class false true false x y z = refl
by_class false false true x y z = refl
by_class false false false x y z = refl

-- a byte is a digit to both
same_digit : (c : ℕ) → is_hex_digit c ≡ is_ascii_hexdigit c
same_digit c =
    by_class (nat_le 65 c && nat_le c 70) (nat_le 97 c && nat_le c 102) (nat_le 48 c && nat_le c 57) _ _ _

list_all-same : (word : List ℕ) → list_all is_hex_digit word ≡ list_all is_ascii_hexdigit word
list_all-same [] = refl
list_all-same (b ∷ word) =
    ap (λ t. t && list_all is_hex_digit word) (same_digit b)
    ∙ ap (λ t. is_ascii_hexdigit b && t) (list_all-same word)

-- digits, two a byte, spell bytes
pub digits-read : (word : List ℕ) → are_digits word ≡ true → Some (bytes_of_digits word) ≡ result_ok (decode_of word)
digits-read word h =
    let parts = and_parts (length word % 2 == 0) (list_all is_ascii_hexdigit word) h in
    let digits = AllPass-from_list_all is_hex_digit word (list_all-same word ∙ parts.1) in
    let bytes = decode_of-digits word (eqb-true (length word % 2) 0 parts.0) digits in
    rw bytes.1 refl

read_digits : (word : List ℕ) (r : Result (List ℕ) FromHexError) → decode_of word ≡ r → are_digits word ≡ false
    → None ≡ result_ok r
read_digits word (Err e) h none = refl
read_digits word (Ok bytes) h none =
    let ok = decode_of-ok word bytes h in
    let even : (length word % 2 == 0) ≡ true = eq-eqb (length word % 2) 0 ok.0 in
    let digits : list_all is_ascii_hexdigit word ≡ true =
    sym (list_all-same word) ∙ list_all-from_AllPass is_hex_digit word ok.1 in
    let all : are_digits word ≡ true = rw (even, digits) refl in
    absurd cc

-- nothing else does
pub digits-refused : (word : List ℕ) → are_digits word ≡ false → None ≡ result_ok (decode_of word)
digits-refused word none = read_digits word (decode_of word) refl none
