-- What the bytes of a header tell.
--
-- They are those of one header: `same_header`. They are not refused: `no_fault`. Its checksum: `one_checksum`,
-- `same_checksum`, `written_checksum`.
use Rattle.std.proofs.Common.{◌≡◌, ℕ, ◌+◌, ◌*◌, ◌/◌, ◌^◌, ◌<◌, ◌≤◌, List, [], ◌∷◌, ◌++◌, Bool, length, take, drop}
use Rattle.std.proofs.Common.{refl, sym, ap, ◌∙◌, arith, rules, lit<, lit≤}
use Rattle.std.specs.Prelude.{pos}
use Rattle.std.proofs.lemmas.List.{take_at, drop_at, drop-drop, same_lists, places}
use Rattle.bit_slice.specs.Memory.{memory, piece}
use Rattle.ipv4_header.specs.Header.{header_len, fields_with, fields_of, BeginsWith, HasField, IsFault, IsChecksumOf}
use Rattle.ipv4_header.specs.Checksum.{checksum_of}
use Rattle.bit_slice.specs.Network.{network, network_bits}
use Rattle.ipv4_header.specs.Fields.{fields_bits, AreBytes}
use Rattle.ipv4_header.specs.declared.header.Header.{Header}
use Rattle.ipv4_header.specs.declared.header.HeaderError.{HeaderError}
use Rattle.ipv4_header.specs.declared.header.HeaderError.TheVariants.{TooFewBytes, NotVersion4, HeaderTooShort}
use Rattle.ipv4_header.specs.declared.header.HeaderError.TheVariants.{HeaderCutOff, TotalTooSmall}
use Rattle.bit_slice.proofs.MemoryLemmas.{memory-take}
use Rattle.bit_slice.proofs.NetworkLemmas.{same_number, length-network_bits}
use Rattle.ipv4_header.proofs.ByteLemmas.{same_rest, same_bytes}
use Rattle.ipv4_header.proofs.FieldLemmas.{fields_fit, same_fields, length-fields_bits}

-- the number of the second field
second : List (ℕ × ℕ) → ℕ
second [] = 0
second (field ∷ []) = 0
second (field ∷ other ∷ rest) = other.1

-- ---- bytes that begin with a header

piece_front : (xs : List Bool) (k at n : ℕ) → at + n ≤ k → piece (take k xs) at n ≡ piece xs at n
unfolding piece
piece_front xs k at n inside =
    same_lists (take n (drop at (take k xs))) (take n (drop at xs)) (search (rules, places))
    (λ i d h. grind (arith, places))

-- the bits of the fields
fields_begin : (bytes : List ℕ) (h : Header) → BeginsWith bytes h
    → take 160 (memory network bytes) ≡ fields_bits (fields_of h)
unfolding piece
fields_begin bytes h is =
    let m = memory network bytes in
    let n : ℕ = header_len h * 8 in
    let fields = fields_bits (fields_of h) in
    let front : piece (take n m) 0 160 ≡ piece m 0 160 = piece_front m n 0 160 (omega arith) in
    sym front
    ∙ ap (take 160) (sym (memory-take network bytes (header_len h) is.fits) ∙ is.bits)
    ∙ take_at fields (memory network h.options.now) 160 (length-fields_bits (fields_of h))

-- the same bytes begin with one header
pub same_header : (bytes : List ℕ) (h other : Header) → BeginsWith bytes h → BeginsWith bytes other
    → (fields_of h ≡ fields_of other) × (h.options.now ≡ other.options.now)
unfolding second
same_header bytes h other is its =
    let same : fields_of h ≡ fields_of other =
    same_fields (fields_of h) (fields_of other) refl (fields_fit h) (fields_fit other)
    (sym (fields_begin bytes h is) ∙ fields_begin bytes other its) in
    let words : header_len h / 4 ≡ header_len other / 4 = ap second same in
    let len : header_len h ≡ header_len other = omega (arith, h.whole_words, other.whole_words) in
    let size : length (fields_bits (fields_of h)) ≡ length (fields_bits (fields_of other)) =
    length-fields_bits (fields_of h) ∙ sym (length-fields_bits (fields_of other)) in (
      same,
      same_bytes h.options.now other.options.now h.bytes other.bytes
          (same_rest (fields_bits (fields_of h)) (fields_bits (fields_of other)) (memory network h.options.now)
          (memory network other.options.now) size
          (sym is.bits ∙ ap (λ n. memory network (take n bytes)) len ∙ its.bits)),
    )

-- ---- none of its bytes is refused

field_first : (w k : ℕ) (rest : List (ℕ × ℕ)) → piece (fields_bits ((w, k) ∷ rest)) 0 w ≡ network_bits w (pos k)
unfolding piece
field_first w k rest = take_at (network_bits w (pos k)) (fields_bits rest) w (length-network_bits w (pos k))

field_next : (w k at n : ℕ) (rest : List (ℕ × ℕ))
    → piece (fields_bits ((w, k) ∷ rest)) (w + at) n ≡ piece (fields_bits rest) at n
unfolding piece
field_next w k at n rest =
    let xs = network_bits w (pos k) in
    ap (take n) (sym (drop-drop at w (xs ++ fields_bits rest))
    ∙ ap (drop at) (drop_at xs (fields_bits rest) w (length-network_bits w (pos k))))

-- a field of the header is the only number that its bits hold
held : (bytes : List ℕ) (h : Header) (at n k number : ℕ) → BeginsWith bytes h → at + n ≤ 160
    → piece (fields_bits (fields_of h)) at n ≡ network_bits n (pos k) → k < 2 ^ n → HasField bytes at n number
    → number ≡ k
held bytes h at n k number is inside there small has =
    same_number n number k has.0 small
    (sym has.1 ∙ sym (piece_front (memory network bytes) 160 at n inside)
    ∙ ap (λ xs. piece xs at n) (fields_begin bytes h is) ∙ there)

version_held : (bytes : List ℕ) (h : Header) (number : ℕ) → BeginsWith bytes h → HasField bytes 0 4 number
    → number ≡ 4
version_held bytes h number is has = held bytes h 0 4 4 number is (lit≤ tt) (field_first 4 4 (drop 1 (fields_of h))) (lit< tt) has

words_held : (bytes : List ℕ) (h : Header) (number : ℕ) → BeginsWith bytes h → HasField bytes 4 4 number
    → number ≡ header_len h / 4
words_held bytes h number is has =
    let k : ℕ = header_len h / 4 in
    held bytes h 4 4 k number is (lit≤ tt) (field_next 4 4 0 4 (drop 1 (fields_of h)) ∙ field_first 4 k (drop 2 (fields_of h))) (omega arith) has

total_held : (bytes : List ℕ) (h : Header) (number : ℕ) → BeginsWith bytes h → HasField bytes 16 16 number
    → number ≡ h.total_length
total_held bytes h number is has =
    let k : ℕ = header_len h / 4 in
    held bytes h 16 16 h.total_length number is (lit≤ tt)
    (field_next 4 4 12 16 (drop 1 (fields_of h)) ∙ field_next 4 k 8 16 (drop 2 (fields_of h))
    ∙ field_next 8 h.type_of_service 0 16 (drop 3 (fields_of h)) ∙ field_first 16 h.total_length (drop 4 (fields_of h)))
    h.sixteen_bits.0 has

pub no_fault : (bytes : List ℕ) (h : Header) (error : HeaderError) → BeginsWith bytes h → IsFault bytes error → ⊥
no_fault bytes h (TooFewBytes n) is (count, few) = omega (arith, is.fits)
no_fault bytes h (NotVersion4 n) is (some, version, other) = other (version_held bytes h n is version)
no_fault bytes h (HeaderTooShort n) is (some, version, words, few) = omega (arith, words_held bytes h n is words)
no_fault bytes h (HeaderCutOff words n) is (count, version, has, some, cut) =
    omega (arith, is.fits, words_held bytes h words is has, h.whole_words)
no_fault bytes h (TotalTooSmall total words) is (version, has, has_total, some, there, small) =
    omega (arith, words_held bytes h words is has, total_held bytes h total is has_total, h.holds_header)

-- ---- its checksum

-- a header has one checksum
pub one_checksum : (h : Header) (m n : ℕ) → IsChecksumOf h m → IsChecksumOf h n → m ≡ n
one_checksum h m n is its =
    is.sum ∙ ap checksum_of (same_bytes is.bytes its.bytes is.are its.are (is.bits ∙ sym its.bits)) ∙ sym its.sum

-- whatever the checksum field says
pub same_checksum : (h other : Header) (n : ℕ) → fields_with 0 other ≡ fields_with 0 h
    → other.options.now ≡ h.options.now → IsChecksumOf h n → IsChecksumOf other n
same_checksum h other n fields options is = record {
  bytes = is.bytes;
  are = is.are;
  bits = is.bits
      ∙ ap (λ fs. fields_bits fs ++ memory network h.options.now) (sym fields)
      ∙ ap (λ xs. fields_bits (fields_with 0 other) ++ memory network xs) (sym options);
  sum = is.sum;
}

-- a header with a zero for its checksum, written
pub written_checksum : (h blank : Header) (written : List ℕ) (len n : ℕ) → len ≡ header_len blank
    → AreBytes (take len written) → BeginsWith written blank → blank.checksum ≡ 0
    → fields_with 0 blank ≡ fields_with 0 h → blank.options.now ≡ h.options.now → n ≡ checksum_of (take len written)
    → IsChecksumOf h n
written_checksum h blank written len n len_is are is zero_is fields options sum_is = record {
  bytes = take len written;
  are = are;
  bits = ap (λ k. memory network (take k written)) len_is
      ∙ is.bits
      ∙ ap (λ k. fields_bits (fields_with k blank) ++ memory network blank.options.now) zero_is
      ∙ ap (λ fs. fields_bits fs ++ memory network blank.options.now) fields
      ∙ ap (λ xs. fields_bits (fields_with 0 h) ++ memory network xs) options;
  sum = sum_is;
}
