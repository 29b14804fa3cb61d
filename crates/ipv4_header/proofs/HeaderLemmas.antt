-- The bytes of a header: its fields and then its options.
use Rattle.std.proofs.Common.{◌≡◌, ℕ, ◌+◌, ◌-◌, ◌^◌, ◌<◌, ◌≤◌, List, ◌++◌, length, take, drop, sym, ap, ◌∙◌, arith}
use Rattle.std.proofs.Common.{append_assoc, length-append}
use Rattle.std.specs.Int.{w32, from_be_bytes}
use Rattle.std.specs.Net.Addr.{ipv4_bits, IsIpv4OfBits}
use Rattle.std.specs.declared.net.ipv4_addr.Ipv4Addr.{Ipv4Addr}
use Rattle.std.proofs.lemmas.List.{take_at, drop_at, length-take-le, length-drop}
use Rattle.std.proofs.lemmas.Nat.{from_be_bytes-to_be_bytes_4}
use Rattle.bit_slice.specs.Memory.{memory, piece}
use Rattle.bit_slice.specs.Network.{network}
use Rattle.ipv4_header.specs.Fields.{fields_bits}
use Rattle.bit_slice.proofs.MemoryLemmas.{memory-append, memory-take}
use Rattle.ipv4_header.proofs.ByteLemmas.{HasFields, join}

-- an address made of a number has that number
pub address_bits : (address : Ipv4Addr) (n : ℕ) → n < 2 ^ 32 → IsIpv4OfBits address n → ipv4_bits address ≡ n
unfolding ipv4_bits IsIpv4OfBits
address_bits address n small is = ap (from_be_bytes w32) is ∙ from_be_bytes-to_be_bytes_4 n small

pub address_small : (address : Ipv4Addr) (n : ℕ) → n < 2 ^ 32 → IsIpv4OfBits address n → ipv4_bits address < 2 ^ 32
address_small address n small is = rw (address_bits address n small is) small

-- ---- read

-- the bits of a header's bytes, of which the fields are known
pub bits_read : (bytes options : List ℕ) (len : ℕ) (fields : List (ℕ × ℕ)) → 20 ≤ len → len ≤ length bytes
    → options ≡ take (len - 20) (drop 20 bytes) → HasFields (memory network bytes) 0 160 fields
    → memory network (take (20 + length options) bytes) ≡ fields_bits fields ++ memory network options
unfolding piece
bits_read bytes options len fields some fits are held =
    let size : length options ≡ len - 20 =
    ap length are ∙ length-take-le (len - 20) (drop 20 bytes) (omega (arith, length-drop 20 bytes)) in
    let parts : take (20 + length options) bytes ≡ take 20 bytes ++ options =
    join bytes 20 (length options) ∙ ap (λ n. take 20 bytes ++ take n (drop 20 bytes)) size
    ∙ ap (λ xs. take 20 bytes ++ xs) (sym are) in
    ap (memory network) parts
    ∙ memory-append network (take 20 bytes) options
    ∙ ap (λ xs. xs ++ memory network options) (memory-take network bytes 20 (omega arith) ∙ held.bits_are)

-- ---- written

-- the fields and the options, and what stood behind them
pub front_written : (fields options rest : List ℕ) → length fields ≡ 20
    → take (20 + length options) (fields ++ (options ++ rest)) ≡ fields ++ options
front_written fields options rest size =
    let count : length (fields ++ options) ≡ 20 + length options = omega (arith, length-append fields options) in
    ap (take (20 + length options)) (sym (append_assoc fields options rest))
    ∙ take_at (fields ++ options) rest (20 + length options) count

pub rest_written : (fields options rest : List ℕ) → length fields ≡ 20
    → drop (20 + length options) (fields ++ (options ++ rest)) ≡ rest
rest_written fields options rest size =
    let count : length (fields ++ options) ≡ 20 + length options = omega (arith, length-append fields options) in
    ap (drop (20 + length options)) (sym (append_assoc fields options rest))
    ∙ drop_at (fields ++ options) rest (20 + length options) count
