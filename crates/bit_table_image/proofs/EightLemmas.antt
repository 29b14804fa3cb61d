-- A byte of eight bits that are read one by one.
use Rattle.std.proofs.Common.{◌≡◌, ℕ, ◌+◌, ◌*◌, ◌^◌, ◌<◌, ◌≤◌, Bool, cond, List, length, map, reverse}
use Rattle.std.proofs.Common.{sym, ap, ◌∙◌, arith, pow_mono}
use Rattle.std.specs.List.{range_with_len}
use Rattle.std.proofs.lemmas.List.{length-reverse}
use Rattle.std.proofs.lemmas.List.FromFn.{length-map-range_with_len, map-range_with_len_more}
use Rattle.bit_table_layout.specs.declared.layout.Rule.{Rule}
use Rattle.bit_table_layout.specs.Digits.{binary}
use Rattle.bit_table_layout.proofs.DigitLemmas.{binary-lt, binary-reverse_push}
use Rattle.bit_table_image.proofs.ByteLemmas.{weighed}

-- one bit more was read
pub byte_more : (rule : Rule) (first : ℕ) (bits : List Bool) (i byte : ℕ)
    → byte ≡ binary (reverse (map (weighed rule first bits) (range_with_len 0 i)))
    → 2 * byte + cond (weighed rule first bits i) 1 0
    ≡ binary (reverse (map (weighed rule first bits) (range_with_len 0 (i + 1))))
byte_more rule first bits i byte e =
    let read = map (weighed rule first bits) (range_with_len 0 i) in
    let next = weighed rule first bits i in
    let turned : 2 * byte + cond next 1 0 ≡ cond next 1 0 + 2 * binary (reverse read) = omega (arith, e) in
    turned ∙ sym (binary-reverse_push read next)
    ∙ ap (λ l. binary (reverse l)) (sym (map-range_with_len_more (weighed rule first bits) 0 i i (omega arith)))

-- so many bits make a number below that power of two
byte_small : (rule : Rule) (first : ℕ) (bits : List Bool) (i byte : ℕ)
    → byte ≡ binary (reverse (map (weighed rule first bits) (range_with_len 0 i))) → byte < 2 ^ i
byte_small rule first bits i byte e =
    let read = map (weighed rule first bits) (range_with_len 0 i) in
    let long : length (reverse read) ≡ i =
    length-reverse read ∙ length-map-range_with_len (weighed rule first bits) 0 i in
    let size : 2 ^ length (reverse read) ≡ 2 ^ i = ap (λ n. 2 ^ n) long in
    omega (arith, e, binary-lt (reverse read))

-- fewer than eight bits leave room for one more in a byte
pub byte_fits : (rule : Rule) (first : ℕ) (bits : List Bool) (i byte : ℕ) → i < 8
    → byte ≡ binary (reverse (map (weighed rule first bits) (range_with_len 0 i))) → byte < 128
byte_fits rule first bits i byte low e =
    let below = byte_small rule first bits i byte e in
    let seven : i ≤ 7 = omega arith in
    let most : 2 ^ i ≤ 2 ^ 7 = pow_mono seven in
    omega arith
