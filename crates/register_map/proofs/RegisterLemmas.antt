-- What a call at one device leaves to the others, and what it makes of the device's own bits.
--
-- A run of one command: `kept_run`, `flag_written`. Bits copied: `kept_copied`, `number_read`, `number_stored`. A device's
-- bits one by one: `bit_of`.
use Rattle.std.proofs.Common.{◌≡◌, ℕ, ◌+◌, ◌/◌, ◌%◌, ◌^◌, ◌<◌, ◌≤◌, ◌==◌, Bool, false, List, [], ◌∷◌}
use Rattle.std.proofs.Common.{length, get_or, set, refl, sym, ap, ◌∙◌, inl, inr, arith, lit<}
use Rattle.std.proofs.lemmas.Bool.{cases_lt, lt-ltb}
use Rattle.std.proofs.lemmas.List.{get_or_past}
use Rattle.std.proofs.lemmas.Nat.Bits.{bit_at_above}
use Rattle.std.specs.Int.{bit_at}
use Rattle.bit_addressing.specs.Memory.{entry, Copies, Overwrites}
use Rattle.bit_addressing.specs.Span.{span_place, FitsIn}
use Rattle.bit_addressing.specs.Runs.{Runs, span_at}
use Rattle.bit_addressing.specs.declared.command.SpanCommand.{SpanCommand}
use Rattle.bit_addressing.specs.declared.command.SpanCommand.TheVariants.{Replace}
use Rattle.bit_addressing.specs.declared.command.SpanReply.{SpanReply}
use Rattle.bit_addressing.proofs.CallerLemmas.{run_of_one, run_beside_one, overwritten_beside, list_in_range}
use Rattle.bit_addressing.proofs.CommandLemmas.{length-span_bits, span_bit}
use Rattle.register_map.specs.Registers.{bits_of, number_of, width_of, IsMap, KeepsOthers, Registers}
use Rattle.register_map.specs.Words.{digits_first, words}
use Rattle.register_map.proofs.NumberLemmas.{number_of_digits}

-- a run of one command
pub kept_run : (map : Registers) (before after : List ℕ) (d : ℕ) (command : SpanCommand ℕ) (replies : List (SpanReply ℕ))
    → d < length map.spans → Runs words before after map.spans ((d, command) ∷ []) replies
    → KeepsOthers map before after d
kept_run map before after d command replies own runs = record {
  devices = λ e within other. run_beside_one words before after map.spans d command replies e within other runs;
  free = λ p free. runs.others p free;
  size = runs.words;
}

-- ---- a device's own bits

-- the words of a map hold each device
fits : (map : Registers) (memory : List ℕ) (d : ℕ) → IsMap map → map.size ≤ length memory → d < length map.spans
    → FitsIn 32 (span_at map.spans d) (length memory)
fits map memory d is room within = let here = is.fit d within in omega arith

length-bits_of : (map : Registers) (memory : List ℕ) (d : ℕ) → IsMap map → map.size ≤ length memory
    → d < length map.spans → length (bits_of map memory d) ≡ width_of map d
length-bits_of map memory d is room within =
    length-span_bits words memory (span_at map.spans d) (is.heads d within) (fits map memory d is room within)

-- bit i of a device
pub bit_of : (map : Registers) (memory : List ℕ) (d i : ℕ) → i < width_of map d
    → get_or (bits_of map memory d) i false ≡ entry words memory (span_place 32 (span_at map.spans d) + i)
bit_of map memory d i low = span_bit words memory (span_at map.spans d) i (lit< tt) low

-- one command that writes a bit of it
pub flag_written : (map : Registers) (before after : List ℕ) (d i : ℕ) (bit : Bool) (replies : List (SpanReply ℕ))
    → IsMap map → map.size ≤ length before → d < length map.spans → i < width_of map d
    → Runs words before after map.spans ((d, Replace i bit) ∷ []) replies
    → bits_of map after d ≡ set (bits_of map before d) i bit
flag_written map before after d i bit replies is room own low runs =
    let bits = bits_of map before d in
    let size = length-bits_of map before d is room own in
    run_of_one words before after map.spans d (Replace i bit) replies own runs
    ∙ list_in_range words (span_at map.spans d).head (Replace i bit) bits (lt-ltb i (length bits) (omega arith))

-- ---- numbers

-- an entry of one word is a digit of its number
entry_of_one : (number i : ℕ) → number < 2 ^ 32 → i < 32 → (bit_at number i == 1) ≡ entry digits_first (number ∷ []) i
unfolding entry
entry_of_one number i fit low =
    let row : i / 32 ≡ 0 = omega arith in
    let column : i % 32 ≡ i = omega arith in
    let whole : number % 2 ^ 32 ≡ number = omega arith in
    rw (row, column, whole) refl

-- the number of the bits that were copied to a word of no digits
pub number_read : (map : Registers) (memory : List ℕ) (d place width number : ℕ) → IsMap map
    → map.size ≤ length memory → d < length map.spans → place ≡ span_place 32 (span_at map.spans d)
    → width ≡ width_of map d → number < 2 ^ 32
    → Copies digits_first (0 ∷ []) (number ∷ []) words memory place 0 width
    → number ≡ number_of (bits_of map memory d)
number_read map memory d place width number is room within at all fit copied =
    let bits = bits_of map memory d in
    let size : length bits ≡ width = length-bits_of map memory d is room within ∙ sym all in
    let few : width_of map d ≤ 32 = is.few d within in
    sym (number_of_digits 32 number bits fit (omega arith) (λ i low.
    entry_of_one number i fit low
    ∙ elim (cases_lt i width) [
      | inl own ↦
          let first : 0 + i ≡ i = omega arith in
          ap (entry digits_first (number ∷ [])) (sym first)
          ∙ copied.there i own
          ∙ ap (λ p. entry words memory (p + i)) at
          ∙ sym (bit_of map memory d i (omega arith))
      | inr past ↦
          copied.above i (omega arith)
          ∙ sym (entry_of_one 0 i (lit< tt) low)
          ∙ ap (λ b. b == 1) (bit_at_above 0 0 i (lit< tt) (omega arith))
          ∙ sym (get_or_past bits i false (omega arith))
    ]))

-- the number of the bits that were copied from a word
pub number_stored : (map : Registers) (before after : List ℕ) (d place width number : ℕ) → IsMap map
    → map.size ≤ length before → d < length map.spans → place ≡ span_place 32 (span_at map.spans d)
    → width ≡ width_of map d → number < 2 ^ width → number < 2 ^ 32
    → Copies words before after digits_first (number ∷ []) 0 place width
    → number_of (bits_of map after d) ≡ number
number_stored map before after d place width number is room within at all low fit copied =
    let bits = bits_of map after d in
    let still : map.size ≤ length after = rw copied.words room in
    let size : length bits ≡ width = length-bits_of map after d is still within ∙ sym all in
    let few : width_of map d ≤ 32 = is.few d within in
    number_of_digits width number bits low (omega arith) (λ i own.
    let first : 0 + i ≡ i = omega arith in
    entry_of_one number i fit (omega arith)
    ∙ ap (entry digits_first (number ∷ [])) (sym first)
    ∙ sym (copied.there i own)
    ∙ ap (λ p. entry words after (p + i)) at
    ∙ sym (bit_of map after d i (omega arith)))

-- and what else there is
pub kept_copied : (map : Registers) (before after : List ℕ) (d place width : ℕ) (now : ℕ → Bool) → IsMap map
    → d < length map.spans → place ≡ span_place 32 (span_at map.spans d) → width ≡ width_of map d
    → Overwrites words before after place width now → KeepsOthers map before after d
kept_copied map before after d place width now is own at all writes = record {
  devices = λ e within other.
      overwritten_beside words before after map.spans d e place width now (lit< tt) is.disjoint own within other
      (omega arith) (omega arith) writes;
  free = λ p free.
      elim (cases_lt p place) [
        | inl below ↦ writes.below p below
        | inr up ↦ let out = free d own (omega arith) in writes.above p (omega arith)
      ];
  size = writes.words;
}
