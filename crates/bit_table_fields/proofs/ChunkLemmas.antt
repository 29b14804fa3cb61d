-- Numbers and the chunks that hold their digits.
--
-- Read: `held_digits`, a number from a chunk of its bits. Written:
-- `lowest_digit`, `chunk_holds`, the chunk of a number; `number_written`, it in a window.
use Rattle.std.proofs.Common.{◌≡◌, ℕ, suc, ◌+◌, ◌-◌, ◌*◌, ◌/◌, ◌%◌, ◌^◌, ◌==◌, ◌<◌, ◌≤◌, Bool, true, false}
use Rattle.std.proofs.Common.{List, [], ◌∷◌, length, get_or, reverse, cond, refl, sym, ap, ◌∙◌, arith}
use Rattle.std.proofs.Common.{pow-suc, ℤ, SFits}
use mir.Syntax.{w128}
use Rattle.std.proofs.lemmas.Bool.{eqb-true}
use Rattle.std.proofs.lemmas.List.{get_or-reverse, length-reverse}
use Rattle.std.proofs.lemmas.Nat.Bits.{bit_at-suc, bit_at_lowest}
use Rattle.std.specs.Int.{bit_at, cast_unsigned}
use Rattle.bit_addressing_memory.specs.Bits.{digit_at}
use Rattle.bit_addressing_memory.specs.Memory.{Reading, memory, piece, with_piece, Overwrites}
use Rattle.bit_addressing_memory.proofs.ShiftLemmas.{bit_at_cut}
use Rattle.bit_addressing_memory.proofs.WindowLemmas.{window_bit, length-window, window_overwritten}
use Rattle.bit_addressing_memory.proofs.LimbLemmas.{no_digit}
use Rattle.bit_addressing_memory.specs.declared.direction.Direction.TheVariants.{Ascending, Descending}
use Rattle.bit_slice_chunks.specs.Chunk.{chunk_bit, digits_in, HoldsDigits, IsChunk}
use Rattle.bit_slice_chunks.proofs.DigitsLemmas.{digits_read}
use Rattle.bit_table_layout.specs.declared.layout.Rule.{Rule}
use Rattle.bit_table_layout.specs.declared.layout.Rule.TheVariants.{Low, High}
use Rattle.bit_table_layout.specs.Digits.{binary, has_digit}
use Rattle.bit_table_layout.specs.Readings.{lowest_first}
use Rattle.bit_table_layout.specs.Rows.{field_bits}
use Rattle.bit_table_layout.proofs.DigitLemmas.{has_digit-cast_unsigned}
use Rattle.bit_table_layout.proofs.ReadingLemmas.{length-field_bits}
use Rattle.bit_table_fields.specs.Chunks.{rule_way, ChunkOf}
use Rattle.bit_table_fields.proofs.WindowLemmas.{get_or-field_bits}

-- ---- read

-- the lowest digit of a number
lowest : (n : ℕ) (b : Bool) → digit_at n 0 ≡ b → n % 2 ≡ cond b 1 0
lowest n true is = sym (bit_at_lowest n) ∙ eqb-true (bit_at n 0) 1 is
lowest n false is = sym (bit_at_lowest n) ∙ no_digit n 0 is

-- a number with these digits and no others
number_of_bits : (bits : List Bool) (n : ℕ) → ((i : ℕ) → i < length bits → digit_at n i ≡ get_or bits i false)
    → n < 2 ^ length bits → n ≡ binary bits
number_of_bits [] n digits small = omega arith
number_of_bits (b ∷ bs) n digits small =
    let first : n % 2 ≡ cond b 1 0 = lowest n b (digits 0 (omega arith)) in
    let half : n / 2 < 2 ^ length bs = omega (arith, pow-suc 2 (length bs)) in
    let rest : n / 2 ≡ binary bs =
    number_of_bits bs (n / 2)
    (λ i low. ap (λ d. d == 1) (sym (bit_at-suc n i)) ∙ digits (suc i) (omega arith)) half in
    omega arith

-- a chunk in the direction of a rule holds the digits of the number of its bits
pub held_digits : {R : Type 0} (rule : Rule) (reading : Reading R) (words : List R) (place n chunk : ℕ)
    → 0 < reading.bits → place + n ≤ length words * reading.bits → 1 ≤ n → n ≤ 64 → chunk < 2 ^ 64
    → IsChunk reading words place n (rule_way rule) chunk
    → digits_in (rule_way rule) n chunk ≡ binary (lowest_first rule (piece (memory reading words) place n))
held_digits Low reading words place n chunk some within any few fits is =
    let read = digits_read Ascending reading words place n chunk any few fits is in
    let size : length (piece (memory reading words) place n) ≡ n = length-window reading words place n within in
    number_of_bits (piece (memory reading words) place n) chunk
    (λ i low.
    let inside : i < n = omega arith in
    read.digits i inside ∙ sym (window_bit reading words place n i some inside))
    (rw size read.small)
held_digits High reading words place n chunk some within any few fits is =
    let read = digits_read Descending reading words place n chunk any few fits is in
    let xs = piece (memory reading words) place n in
    let d : ℕ = chunk / 2 ^ (64 - n) in
    let size : length xs ≡ n = length-window reading words place n within in
    let turned : length (reverse xs) ≡ n = length-reverse xs ∙ size in
    number_of_bits (reverse xs) d
    (λ i low.
    let at : n - 1 - (n - 1 - i) ≡ i = omega arith in
    let last : length xs - 1 - i ≡ n - 1 - i = omega arith in
    ap (digit_at d) (sym at)
    ∙ read.digits (n - 1 - i) (omega arith)
    ∙ sym (get_or-reverse xs i false (omega arith)
    ∙ ap (λ k. get_or xs k false) last
    ∙ window_bit reading words place n (n - 1 - i) some (omega arith)))
    (rw turned read.small)

-- ---- written

-- the 64 lowest digits of a number
pub lowest_digit : (v : ℤ) (d : ℕ) → SFits w128 v → d ≡ cast_unsigned w128 v % 2 ^ 64 → (k : ℕ) → k < 64
    → digit_at d k ≡ has_digit v k
lowest_digit v d fits is k small =
    ap (λ n. digit_at n k) is
    ∙ ap (λ b. b == 1) (bit_at_cut (cast_unsigned w128 v) 64 k small)
    ∙ sym (has_digit-cast_unsigned w128 v k fits (omega arith))

-- as a chunk
pub chunk_holds : (rule : Rule) (v : ℤ) (n d chunk : ℕ) → n ≤ 64 → ((k : ℕ) → k < 64 → digit_at d k ≡ has_digit v k)
    → HoldsDigits (rule_way rule) d n chunk → ChunkOf rule n v chunk
chunk_holds Low v n d chunk few is holds k low = holds k low ∙ is k (omega arith)
chunk_holds High v n d chunk few is holds k low = holds k low ∙ is (n - 1 - k) (omega arith)

-- a number's chunk written into a window
pub number_written : {R : Type 0} (rule : Rule) (reading : Reading R) (before after : List R)
    (place all at n chunk : ℕ) (v : ℤ) → 0 < reading.bits → place + all ≤ length before * reading.bits → at + n ≤ all
    → n ≤ 64 → ChunkOf rule n v chunk
    → Overwrites reading before after (place + at) n (chunk_bit (rule_way rule) chunk)
    → piece (memory reading after) place all
    ≡ with_piece (piece (memory reading before) place all) at (field_bits rule n v)
number_written rule reading before after place all at n chunk v some fits inside few is wrote =
    window_overwritten reading before after place all (place + at) at n (chunk_bit (rule_way rule) chunk)
    (field_bits rule n v) some fits refl inside (length-field_bits rule n v)
    (λ k low. is k low ∙ sym (get_or-field_bits rule n v k low)) wrote
