-- Bytes as a memory, whose bits are those of an image.
--
-- Bits of bytes: `byte_bit`, `first_of_bytes`. Bytes of bits: `are_bytes_of`; `holds_bits` of a vector of bytes.
-- `if_ok` goes on from a result.
use Rattle.std.proofs.Common.{◌≡◌, ℕ, ◌+◌, ◌-◌, ◌*◌, ◌/◌, ◌%◌, ◌^◌, ◌<◌, ◌≤◌, zero, suc, Bool, false, List, []}
use Rattle.std.proofs.Common.{◌∷◌, ◌++◌, length, get_or, take, drop, map, reverse, replicate, pos}
use Rattle.std.proofs.Common.{refl, sym, ap, ◌∙◌, inl, inr}
use Rattle.std.proofs.Common.{add-one, arith, length-append, length-take, get_or-take, get_or-drop}
use Rattle.std.specs.Prelude.{◌==◌, IfOk, Result, Ok, Err}
use Rattle.std.specs.List.{range_with_len}
use Rattle.std.proofs.lemmas.Bool.{cases_lt}
use Rattle.std.proofs.lemmas.List.{ext_get_or, get_or_past, get_or-reverse, length-replicate}
use Rattle.std.proofs.lemmas.List.{length-take-le}
use Rattle.std.proofs.lemmas.List.{replicate_more, reverse-append}
use Rattle.std.proofs.lemmas.List.FromFn.{get_or-map-range_with_len, length-map-range_with_len, fill_by_all}
use Rattle.std.proofs.lemmas.Nat.{div-add-mod', mod_below}
use Rattle.bit_addressing_memory.proofs.EntryLemmas.{entry_at}
use Rattle.bit_addressing_memory.proofs.MemoryLemmas.{entry_memory, with_piece_above, with_piece_inside}
use Rattle.bit_addressing_memory.proofs.WindowLemmas.{window_is}
use Rattle.bit_addressing_memory.specs.Bits.{digit_at}
use Rattle.bit_addressing_memory.specs.Memory.{entry, memory, piece, with_piece}
use Rattle.bit_containers_vector.proofs.VectorLemmas.{length-visible}
use Rattle.bit_containers_vector.proofs.WordLemmas.{length-bits}
use Rattle.bit_containers_vector.specs.Count.{words_for}
use Rattle.bit_containers_vector.specs.Grown.{Extends}
use Rattle.bit_containers_vector.specs.Vector.{vec_bits, vec_head, visible}
use Rattle.bit_containers_vector.specs.declared.vector.BitVec.{BitVec}
use Rattle.bit_table_layout.specs.declared.layout.Rule.{Rule}
use Rattle.bit_table_layout.specs.declared.layout.Rule.TheVariants.{Low, High}
use Rattle.bit_table_layout.specs.Digits.{binary, has_digit}
use Rattle.bit_table_layout.specs.Images.{byte_of, bytes_of}
use Rattle.bit_table_layout.specs.Loads.{bits_of_bytes}
use Rattle.bit_table_layout.specs.Rows.{field_bits}
use Rattle.bit_table_layout.proofs.DigitLemmas.{binary-digits-pos, binary-zeros_after, digits}
use Rattle.bit_table_layout.proofs.ImageLemmas.{get_or-bytes_of, length-bytes_of}
use Rattle.bit_table_layout.proofs.LoadLemmas.{chunk_of_bytes, get_or-bits_of_bytes, length-bits_of_bytes}
use Rattle.bit_table_layout.proofs.ReadingLemmas.{field_bits-digits}
use Rattle.bit_table_image.specs.Bytes.{AreBytes, HoldBits, bytes_read}

-- what follows of each result holds of a result that there is
pub if_ok : {A E : Type 0} {P Q : A → Type 0} (r : Result A E) → ((x : A) → P x → Q x) → IfOk r P → IfOk r Q
if_ok (Ok x) more had = more x had
if_ok (Err e) more had = had

-- ---- bits of bytes

bit_low : (b place : ℕ) → place < 8 → (b / 2 ^ place % 2 == 1) ≡ get_or (field_bits Low 8 (pos b)) place false
bit_low b place h = sym (get_or-map-range_with_len (has_digit (pos b)) 0 8 place place false h (omega arith))

bit_high : (b place : ℕ) → place < 8
    → (b / 2 ^ (7 - place) % 2 == 1) ≡ get_or (field_bits High 8 (pos b)) place false
bit_high b place h =
    let ds = digits (pos b) 8 in
    let all : length ds ≡ 8 = length-map-range_with_len (has_digit (pos b)) 0 8 in
    let at : length ds - 1 - place ≡ 7 - place = omega arith in
    sym (ap (λ bits. get_or bits place false) (field_bits-digits High 8 (pos b))
    ∙ get_or-reverse ds place false (omega arith) ∙ ap (λ j. get_or ds j false) at
    ∙ get_or-map-range_with_len (has_digit (pos b)) 0 8 (7 - place) (7 - place) false (omega arith) (omega arith))

-- the position in a byte of the bit that comes as number i
abbrev pub place_in : Rule → ℕ → ℕ
place_in Low i = i
place_in High i = 7 - i

-- the order in which bytes are read is the rule's
abbrev pub ReadsBy : Rule → (ℕ → ℕ) → Type 0
ReadsBy rule at = (i : ℕ) → i < 8 → at i ≡ place_in rule i

bit_by : (rule : Rule) (b i : ℕ) → i < 8 → digit_at b (place_in rule i) ≡ get_or (field_bits rule 8 (pos b)) i false
bit_by Low b i low = bit_low b i low
bit_by High b i low = bit_high b i low

-- a bit of bytes
pub byte_bit : (rule : Rule) (at : ℕ → ℕ) (bytes : List ℕ) (i : ℕ) → ReadsBy rule at → AreBytes bytes
    → i < 8 * length bytes
    → entry (bytes_read at) bytes i ≡ get_or (bits_of_bytes rule bytes) i false
byte_bit rule at bytes i reads small low =
    let b : ℕ = get_or bytes (i / 8) 0 in
    let here : i / 8 * 8 + i % 8 ≡ i = div-add-mod' i 8 in
    let inside : i % 8 < 8 = mod_below i 8 (omega arith) in
    let fits : b % 2 ^ 8 ≡ b = omega (arith, small (i / 8)) in
    ap (entry (bytes_read at) bytes) (sym here)
    ∙ entry_at (bytes_read at) bytes (i / 8) (i % 8) 0 inside (omega arith)
    ∙ ap (λ n. digit_at n (at (i % 8))) fits
    ∙ ap (digit_at b) (reads (i % 8) inside)
    ∙ bit_by rule b (i % 8) inside
    ∙ sym (get_or-bits_of_bytes rule bytes i low)

-- the first bits of bytes
pub first_of_bytes : (rule : Rule) (at : ℕ → ℕ) (bytes : List ℕ) (n : ℕ) → ReadsBy rule at → AreBytes bytes
    → n ≤ 8 * length bytes → piece (memory (bytes_read at) bytes) 0 n ≡ take n (bits_of_bytes rule bytes)
first_of_bytes rule at bytes n reads small enough =
    let all = bits_of_bytes rule bytes in
    let size = length-bits_of_bytes rule bytes in
    let some : 0 < 8 = omega arith in
    window_is (bytes_read at) bytes 0 n (take n all) some (omega arith) (length-take-le n all (omega arith)) (λ k low.
    let here : 0 + k ≡ k = omega arith in
    ap (entry (bytes_read at) bytes) here
    ∙ byte_bit rule at bytes k reads small (omega arith) ∙ sym (get_or-take n all k false low))

-- ---- bytes of bits

-- the place, among eight, of the bit that weighs 2 ^ (7 - j)
abbrev pub weighed_place : Rule → ℕ → ℕ
weighed_place Low j = 7 - j
weighed_place High j = j

-- the bit that weighs 2 ^ (7 - j), false past the end
abbrev pub weighed : Rule → ℕ → List Bool → ℕ → Bool
weighed rule first bits j = get_or bits (first + weighed_place rule j) false

get_or-zeros : (n k : ℕ) → get_or (replicate n false) k false ≡ false
get_or-zeros zero k = refl
get_or-zeros (suc n) zero = refl
get_or-zeros (suc n) (suc k) = get_or-zeros n k

-- past the end a bit is false, and so it is where false was added
get_or-padded : (xs : List Bool) (n k : ℕ) → get_or (xs ++ replicate n false) k false ≡ get_or xs k false
get_or-padded [] n k = get_or-zeros n k
get_or-padded (x ∷ xs) n zero = refl
get_or-padded (x ∷ xs) n (suc k) = get_or-padded xs n k

reverse-zeros : (n : ℕ) → reverse (replicate n false) ≡ replicate n false
reverse-zeros zero = refl
reverse-zeros (suc n) =
    reverse-append (false ∷ []) (replicate n false) ∙ ap (λ l. l ++ false ∷ []) (reverse-zeros n)
    ∙ replicate_more n false ∙ ap (λ m. replicate m false) (add-one n)

-- the eight bits from a place on, and as many times false as are missing
abbrev eight_from : ℕ → List Bool → List Bool
eight_from first bits = map (λ j. get_or bits (first + j) false) (range_with_len 0 8)

padded : (first : ℕ) (bits : List Bool)
    → take 8 (drop first bits) ++ replicate (8 - length (take 8 (drop first bits))) false ≡ eight_from first bits
padded first bits =
    let eight = take 8 (drop first bits) in
    let few : length eight ≤ 8 = omega (arith, length-take 8 (drop first bits)) in
    let zeros = replicate (8 - length eight) false in
    let long : length (eight ++ zeros) ≡ 8 =
    length-append eight zeros ∙ ap (λ n. length eight + n) (length-replicate (8 - length eight) false) ∙ omega arith in
    fill_by_all (λ j. get_or bits (first + j) false) (eight ++ zeros) 8 false long
    (λ k low. get_or-padded eight (8 - length eight) k ∙ get_or-take 8 (drop first bits) k false low
    ∙ get_or-drop first bits k false)

-- the eight bits by their weights, the first of them at the top
pub byte_all : (rule : Rule) (first : ℕ) (bits : List Bool)
    → binary (reverse (map (weighed rule first bits) (range_with_len 0 8))) ≡ byte_of rule (take 8 (drop first bits))
byte_all Low first bits =
    let eight = take 8 (drop first bits) in
    let all : binary (eight_from first bits) ≡ binary eight =
    ap binary (sym (padded first bits)) ∙ binary-zeros_after eight (8 - length eight) in
    all
byte_all High first bits =
    let eight = take 8 (drop first bits) in
    let zeros = replicate (8 - length eight) false in
    ap (λ l. binary (reverse l)) (sym (padded first bits))
    ∙ ap binary (reverse-append eight zeros ∙ ap (λ l. l ++ reverse eight) (reverse-zeros (8 - length eight)))

-- a byte depends on what stands at its eight places alone
same_byte : (rule : Rule) (first : ℕ) (xs ys : List Bool) → ((i : ℕ) → get_or xs i false ≡ get_or ys i false)
    → byte_of rule (take 8 (drop first xs)) ≡ byte_of rule (take 8 (drop first ys))
same_byte rule first xs ys same =
    let bits = map (weighed rule first xs) (range_with_len 0 8) in
    let read : bits ≡ map (weighed rule first ys) (range_with_len 0 8) =
    fill_by_all (weighed rule first ys) bits 8 false (length-map-range_with_len (weighed rule first xs) 0 8)
    (λ k low. get_or-map-range_with_len (weighed rule first xs) 0 8 k k false low (omega arith)
    ∙ same (first + weighed_place rule k)) in
    sym (byte_all rule first xs) ∙ ap (λ l. binary (reverse l)) read ∙ byte_all rule first ys

byte_of-field_bits : (rule : Rule) (b : ℕ) → b < 256 → byte_of rule (field_bits rule 8 (pos b)) ≡ b
byte_of-field_bits Low b h = binary-digits-pos 8 b h
byte_of-field_bits High b h = binary-digits-pos 8 b h

-- bytes that hold bits and zeros behind them are the bytes of these bits
pub are_bytes_of : (rule : Rule) (at : ℕ → ℕ) (bytes : List ℕ) (bits : List Bool) → ReadsBy rule at
    → HoldBits at bytes bits → bytes ≡ bytes_of rule bits
are_bytes_of rule at bytes bits reads holds =
    let small = holds.small in
    let all = bits_of_bytes rule bytes in
    let size = length-bits_of_bytes rule bytes in
    let count : length bytes ≡ length (bytes_of rule bits) = holds.size ∙ sym (length-bytes_of rule bits) in
    let same : (i : ℕ) → get_or all i false ≡ get_or bits i false = λ i. elim (cases_lt i (8 * length bytes)) [
      | inl low ↦ sym (byte_bit rule at bytes i reads small low) ∙ holds.is i low
      | inr high ↦
          get_or_past all i false (omega arith)
          ∙ sym (get_or_past bits i false (omega (arith, holds.size)))
    ] in
    ext_get_or 0 bytes (bytes_of rule bits) count (λ k low.
    sym (byte_of-field_bits rule (get_or bytes k 0) (small k))
    ∙ ap (byte_of rule) (sym (chunk_of_bytes rule bytes k low))
    ∙ same_byte rule (8 * k) all bits same
    ∙ sym (get_or-bytes_of rule bits k 0 (omega (arith, holds.size))))

-- ---- a vector of bytes

no_words : (at : ℕ → ℕ) → memory (bytes_read at) [] ≡ []
unfolding memory
no_words at = refl

-- bits that were added to none
pub holds_bits : {P : Type 0} {g : _} (at : ℕ → ℕ) (old new : BitVec ℕ P g) (ys : List Bool)
    → vec_bits (bytes_read at) old ≡ [] → vec_head old ≡ 0 → new.head + new.len ≤ length new.words.items * 8
    → AreBytes (visible (bytes_read at) new) → Extends (bytes_read at) old new ys
    → HoldBits at (visible (bytes_read at) new) ys
holds_bits at old new ys none start fits small more =
    let reading = bytes_read at in
    let shown = visible reading new in
    let some : 0 < 8 = omega arith in
    let bits : vec_bits reading new ≡ ys = more.bits ∙ ap (λ xs. xs ++ ys) none in
    let held : length ys ≡ new.len = ap length (sym bits) ∙ length-bits reading new fits in
    let head : new.head ≡ 0 = more.head ∙ start in
    let size : length shown ≡ words_for 8 (new.head + new.len) = length-visible reading new some fits in
    let end : new.head + new.len ≡ length ys = omega arith in
    let round : words_for 8 (length ys) ≡ (length ys + 7) / 8 = omega arith in
    let count : length shown ≡ (length ys + 7) / 8 = size ∙ ap (words_for 8) end ∙ round in
    let old_end : old.head + length (vec_bits reading old) ≡ 0 = omega (arith, start, ap length none) in
    let old_shown : visible reading old ≡ [] = ap (λ n. take (words_for 8 n) old.words.items) old_end in
    let zeros : List Bool = replicate (length shown * 8) false in
    let all : length shown - 0 ≡ length shown = omega arith in
    let words : memory reading shown ≡ with_piece zeros 0 ys =
    more.words
    ∙ ap (λ p. with_piece (memory reading (visible reading old)
    ++ replicate ((length shown - length (visible reading old)) * 8) false) p ys) old_end
    ∙ ap (λ vs. with_piece (memory reading vs ++ replicate ((length shown - length vs) * 8) false) 0 ys) old_shown
    ∙ ap (λ n. with_piece (memory reading [] ++ replicate (n * 8) false) 0 ys) all
    ∙ ap (λ xs. with_piece (xs ++ zeros) 0 ys) (no_words at) in
    let long : length zeros ≡ length shown * 8 = length-replicate (length shown * 8) false in
    let room : 0 + length ys ≤ length zeros = omega arith in
    record {
      size = count;
      small = small;
      is = λ i low.
          let here : i ≡ 0 + i = omega arith in
          sym (entry_memory reading shown i some) ∙ ap (λ xs. get_or xs i false) words
          ∙ elim (cases_lt i (length ys)) [
            | inl inside ↦ with_piece_inside zeros 0 ys i i false room here inside
            | inr past ↦
                with_piece_above zeros 0 ys i false room (omega arith) ∙ get_or-zeros (length shown * 8) i
                ∙ sym (get_or_past ys i false past)
          ];
    }
