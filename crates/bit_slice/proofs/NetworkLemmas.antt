-- Numbers in network order, for those who pack them in bytes.
--
-- What a window of bytes under `Msb0` holds after `store_be`: `field_network`. How many bits these are:
-- `length-network_bits`. They tell the number: `same_number`.
use Rattle.std.proofs.Common.{◌≡◌, ℕ, ◌-◌, ◌^◌, ◌<◌, false, length, sym, ◌∙◌, lit<}
use Rattle.std.specs.Prelude.{ℤ, pos}
use Rattle.bit_addressing.proofs.OrderCallerLemmas.{length-bits_in_order}
use Rattle.bit_slice_fields.specs.Number.{field_bits}
use Rattle.bit_slice_fields.specs.Whole.{low_digits}
use Rattle.bit_slice_fields.proofs.CallerLemmas.{down_bits}
use Rattle.bit_slice_fields.proofs.DigitsLemmas.{same_digits}
use Rattle.bit_slice_fields.proofs.WholeLemmas.{low_pos}
use Rattle.bit_slice.specs.Network.{network_bits}

pub field_network : (head n : ℕ) (z : ℤ) → field_bits false false 8 head n z ≡ network_bits n z
field_network head n z = down_bits 8 head n z (lit< tt)

pub length-network_bits : (n : ℕ) (z : ℤ) → length (network_bits n z) ≡ n
length-network_bits n z = length-bits_in_order (λ i. n - 1 - i) n (low_digits n z)

pub same_number : (n a b : ℕ) → a < 2 ^ n → b < 2 ^ n → network_bits n (pos a) ≡ network_bits n (pos b) → a ≡ b
same_number n a b small_a small_b same =
    let digits : low_digits n (pos a) ≡ low_digits n (pos b) =
    same_digits false false 8 0 n (pos a) (pos b) (lit< tt)
    (field_network 0 n (pos a) ∙ same ∙ sym (field_network 0 n (pos b))) in
    sym (low_pos n a small_a) ∙ digits ∙ low_pos n b small_b
