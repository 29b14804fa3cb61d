use Rattle.std.proofs.Common.{◌≡◌, ℕ, ◌+◌, ◌-◌, ◌*◌, ◌/◌, ◌≤◌, length, take, drop, refl, sym, arith}
use Rattle.std.proofs.lemmas.List.{length-take-le, length-drop}
use Rattle.bit_slice.specs.Memory.{memory}
use Rattle.bit_slice.specs.Network.{network}
use Rattle.ipv4_header.specs.Fields.{AreBytes}
use Rattle.ipv4_header.proofs.ByteLemmas.{has_none, has_more, bytes_take, bytes_drop}
use Rattle.ipv4_header.proofs.HeaderLemmas.{address_bits, address_small, bits_read}
use Rattle.ipv4_header.proofs.header.Header.read.Goals as goal

pub invariant_of-result-clause-thirty_two_bits : goal.invariant_of-result-clause-thirty_two_bits
invariant_of-result-clause-thirty_two_bits c = (
  address_small c.from_bits.result c.load-8.result c.load-8.ensures.within c.from_bits.ensures,
  address_small c.from_bits-2.result c.load-9.result c.load-9.ensures.within c.from_bits-2.ensures,
)

pub invariant_of-result-clause-bytes : goal.invariant_of-result-clause-bytes
invariant_of-result-clause-bytes c =
    let bytes = c.args.bytes.now in
    let are : AreBytes bytes = record { fit = λ k. (c.type_inv.bytes k).fits } in
    bytes_take (4 * c.from-len.result - 20) (drop 20 bytes) (bytes_drop 20 bytes are)

pub returns-clause-ok : goal.returns-clause-ok
returns-clause-ok c =
    let bytes = c.args.bytes.now in
    let m = memory network bytes in
    let len : ℕ = 4 * c.from-len.result in
    let options = take (len - 20) (drop 20 bytes) in
    let some : 20 ≤ len = omega arith in
    let fits : len ≤ length bytes = omega arith in
    let size : length options ≡ len - 20 =
    length-take-le (len - 20) (drop 20 bytes) (omega (arith, length-drop 20 bytes)) in
    let version : c.load-version.result ≡ 4 = omega arith in
    let count : c.load-words.result ≡ (20 + length options) / 4 = omega arith in
    let from = sym (address_bits c.from_bits.result c.load-8.result c.load-8.ensures.within c.from_bits.ensures) in
    let to = sym (address_bits c.from_bits-2.result c.load-9.result c.load-9.ensures.within c.from_bits-2.ensures) in
    let s0 = has_none m 160 in
    let s1 = has_more m 128 32 c.load-9.result _ 0 _ to c.load-9.ensures.bits s0 in
    let s2 = has_more m 96 32 c.load-8.result _ 32 _ from c.load-8.ensures.bits s1 in
    let s3 = has_more m 80 16 c.load-7.result _ 64 _ refl c.load-7.ensures.bits s2 in
    let s4 = has_more m 72 8 c.load-6.result _ 80 _ refl c.load-6.ensures.bits s3 in
    let s5 = has_more m 64 8 c.load-5.result _ 88 _ refl c.load-5.ensures.bits s4 in
    let s6 = has_more m 51 13 c.load-4.result _ 96 _ refl c.load-4.ensures.bits s5 in
    let s7 = has_more m 48 3 c.load-3.result _ 109 _ refl c.load-3.ensures.bits s6 in
    let s8 = has_more m 32 16 c.load-2.result _ 112 _ refl c.load-2.ensures.bits s7 in
    let s9 = has_more m 16 16 c.load-total_length.result _ 128 _ refl c.load-total_length.ensures.bits s8 in
    let s10 = has_more m 8 8 c.load.result _ 144 _ refl c.load.ensures.bits s9 in
    let s11 = has_more m 4 4 c.load-words.result _ 152 _ count c.load-words.ensures.bits s10 in
    let s12 = has_more m 0 4 c.load-version.result _ 156 _ version c.load-version.ensures.bits s11 in
    record { fits = omega arith; bits = bits_read bytes options len _ some fits refl s12 }
