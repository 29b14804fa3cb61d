-- The layout of a header (RFC 791, section 3.1), and what bytes without one are refused for.
use Rattle.std.specs.Prelude.{◌≡◌, ◌≢◌, ℕ, pos, ◌+◌, ◌*◌, ◌/◌, ◌^◌, ◌<◌, ◌≤◌, Bool}
use Rattle.std.specs.Prelude.{List, [], ◌∷◌, ◌++◌, length, take}
use Rattle.std.specs.Net.Addr.{ipv4_bits}
use Rattle.bit_slice.specs.Memory.{memory, piece}
use Rattle.ipv4_header.specs.Checksum.{checksum_of}
use Rattle.bit_slice.specs.Network.{network, network_bits}
use Rattle.ipv4_header.specs.Fields.{fields_bits, AreBytes}
use Rattle.ipv4_header.specs.declared.header.Header.{Header}
use Rattle.ipv4_header.specs.declared.header.HeaderError.{HeaderError}
use Rattle.ipv4_header.specs.declared.header.HeaderError.TheVariants.{TooFewBytes, NotVersion4, HeaderTooShort}
use Rattle.ipv4_header.specs.declared.header.HeaderError.TheVariants.{HeaderCutOff, TotalTooSmall}

-- how many bytes a header has
abbrev pub header_len : Header → ℕ
header_len h = 20 + length h.options.now

-- its fields in their order, with some checksum: how many bits each has, and its number
abbrev pub fields_with : ℕ → Header → List (ℕ × ℕ)
fields_with checksum h =
    (4, 4)
    ∷ (4, header_len h / 4)
    ∷ (8, h.type_of_service)
    ∷ (16, h.total_length)
    ∷ (16, h.identification)
    ∷ (3, h.flags)
    ∷ (13, h.fragment_offset)
    ∷ (8, h.time_to_live)
    ∷ (8, h.protocol)
    ∷ (16, checksum)
    ∷ (32, ipv4_bits h.source)
    ∷ (32, ipv4_bits h.destination)
    ∷ []

-- its fields, with its own checksum
abbrev pub fields_of : Header → List (ℕ × ℕ)
fields_of h = fields_with h.checksum h

-- the bits of a header: those of its fields, and then those of its options
abbrev pub header_bits : Header → List Bool
header_bits h = fields_bits (fields_of h) ++ memory network h.options.now

-- n is the checksum of a header: that of the bytes which it is written as with a zero for its checksum
pub record IsChecksumOf (h : Header) (n : ℕ) : Type 0 where
  pub bytes : List ℕ
  pub are : AreBytes bytes
  pub bits : memory network bytes ≡ fields_bits (fields_with 0 h) ++ memory network h.options.now
  pub sum : n ≡ checksum_of bytes

-- the bytes begin with a header
pub record BeginsWith (bytes : List ℕ) (h : Header) : Type 0 where
  pub fits : header_len h ≤ length bytes
  pub bits : memory network (take (header_len h) bytes) ≡ header_bits h

-- the n bits from a place on are those of a number
abbrev pub HasField : List ℕ → ℕ → ℕ → ℕ → Type 0
HasField bytes at n number = (number < 2 ^ n) × (piece (memory network bytes) at n ≡ network_bits n (pos number))

-- why bytes begin with no header: each cause where none before it holds
abbrev pub IsFault : List ℕ → HeaderError → Type 0
IsFault bytes (TooFewBytes n) = (length bytes ≡ n) × (n < 20)
IsFault bytes (NotVersion4 n) = (20 ≤ length bytes) × HasField bytes 0 4 n × (n ≢ 4)
IsFault bytes (HeaderTooShort n) = (20 ≤ length bytes) × HasField bytes 0 4 4 × HasField bytes 4 4 n × (n < 5)
IsFault bytes (HeaderCutOff words n) =
    (length bytes ≡ n) × HasField bytes 0 4 4 × HasField bytes 4 4 words × (20 ≤ n) × (n < 4 * words)
IsFault bytes (TotalTooSmall total words) =
    HasField bytes 0 4 4 × HasField bytes 4 4 words × HasField bytes 16 16 total
    × (20 ≤ 4 * words) × (4 * words ≤ length bytes) × (total < 4 * words)
