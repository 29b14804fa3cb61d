-- Fields end to end.
--
-- How many bits they have: `length-fields_bits`. Their bits tell their numbers: `same_fields`, where these fit, as a
-- header's do: `fields_fit`.
use Rattle.std.proofs.Common.{◌≡◌, ℕ, ◌+◌, ◌/◌, ◌^◌, ◌<◌, List, [], ◌∷◌, length, drop}
use Rattle.std.proofs.Common.{refl, sym, ap, ◌∙◌, arith, lit<, length-append}
use Rattle.std.specs.Prelude.{pos}
use Rattle.ipv4_header.specs.Header.{header_len, fields_of}
use Rattle.bit_slice.specs.Network.{network_bits}
use Rattle.ipv4_header.specs.Fields.{fields_bits}
use Rattle.ipv4_header.specs.declared.header.Header.{Header}
use Rattle.bit_slice.proofs.NetworkLemmas.{same_number, length-network_bits}
use Rattle.ipv4_header.proofs.ByteLemmas.{same_front, same_rest}

-- how many bits fields have
abbrev pub width_of : List (ℕ × ℕ) → ℕ
width_of [] = 0
width_of (field ∷ rest) = field.0 + width_of rest

pub length-fields_bits : (fields : List (ℕ × ℕ)) → length (fields_bits fields) ≡ width_of fields
length-fields_bits [] = refl
length-fields_bits (field ∷ rest) = omega (
  arith,
  length-append (network_bits field.0 (pos field.1)) (fields_bits rest),
  length-network_bits field.0 (pos field.1),
  length-fields_bits rest,
)

-- each number fits its field
abbrev pub Fit : List (ℕ × ℕ) → Type 0
Fit [] = Unit {0}
Fit (field ∷ rest) = (field.1 < 2 ^ field.0) × Fit rest

-- how many bits each has
abbrev pub widths : List (ℕ × ℕ) → List ℕ
widths [] = []
widths (field ∷ rest) = field.0 ∷ widths rest

-- fields of the same widths with the same bits have the same numbers
pub same_fields : (fields others : List (ℕ × ℕ)) → widths fields ≡ widths others → Fit fields → Fit others
    → fields_bits fields ≡ fields_bits others → fields ≡ others
same_fields [] [] _ _ _ _ = refl
same_fields [] (other ∷ more) wide _ _ _ = absurd (cc)
same_fields (field ∷ rest) [] wide _ _ _ = absurd (cc)
same_fields ((w, k) ∷ rest) ((v, n) ∷ more) wide fit its same =
    let first : w ≡ v = cc in
    let rest_wide : widths rest ≡ widths more = cc in
    let xs = network_bits w (pos k) in
    let ys = network_bits v (pos n) in
    let size : length xs ≡ length ys = length-network_bits w (pos k) ∙ first ∙ sym (length-network_bits v (pos n)) in
    let front = same_front xs ys (fields_bits rest) (fields_bits more) size same in
    let back = same_rest xs ys (fields_bits rest) (fields_bits more) size same in
    let small : n < 2 ^ w = rw first its.0 in
    let number : k ≡ n = same_number w k n fit.0 small (front ∙ ap (λ u. network_bits u (pos n)) (sym first)) in
    let others : rest ≡ more = same_fields rest more rest_wide fit.1 its.1 back in
    ap (λ x. (x, k) ∷ rest) first ∙ ap (λ x. (v, x) ∷ rest) number ∙ ap (λ x. (v, n) ∷ x) others

-- a header's fields fit
pub fields_fit : (h : Header) → Fit (fields_of h)
fields_fit h =
    let words : header_len h / 4 < 2 ^ 4 = omega arith in
    let eight = h.eight_bits in
    let sixteen = h.sixteen_bits in
    let addresses = h.thirty_two_bits in
    let last : Fit (drop 7 (fields_of h)) = (eight.1, (eight.2, (sixteen.2, (addresses.0, (addresses.1, tt))))) in
    (lit< tt, (words, (eight.0, (sixteen.0, (sixteen.1, (h.three_bits, (h.thirteen_bits, last)))))))
