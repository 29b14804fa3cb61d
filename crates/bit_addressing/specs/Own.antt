-- What a command does to one span: an edit of the span's own list of bits, at words of b bits that the list is cut
-- into from index `head` of its first word on. Nothing here knows of another span, or of bits beside this one's.
--
-- Whether a command's numbers are in range: `lies_in`. What it does: `own_after`, many: `own_list`. What it answers:
-- `own_answer`, many: `own_answers`. An answer's word is the list of its b digits, as `seen` gives those of a reply.
use Rattle.std.specs.Prelude.{ℕ, ◌+◌, ◌-◌, ◌*◌, ◌/◌, ◌%◌, ◌==◌, ◌&&◌, Bool, true, false, not, List, [], ◌∷◌}
use Rattle.std.specs.Prelude.{length, map, if◌then◌else◌, nat_le, nat_lt, slice_index_or, slice_set}
use Rattle.std.specs.List.{range_with_len}
use Rattle.bit_addressing_memory.specs.Memory.{Reading, digits, piece, with_piece, touched}
use Rattle.bit_addressing.specs.declared.command.SpanCommand.{SpanCommand}
use Rattle.bit_addressing.specs.declared.command.SpanCommand.TheVariants.{Load, Store, Set, Clear, Invert}
use Rattle.bit_addressing.specs.declared.command.SpanCommand.TheVariants.{Read, Replace, Swap, Copy}
use Rattle.bit_addressing.specs.declared.command.SpanReply.{SpanReply}
use Rattle.bit_addressing.specs.declared.command.SpanReply.TheVariants.{Word, Bit, Done, Refused}

-- the numbers of a command are in range, at a span of n bits
abbrev pub lies_in : {R : Type 0} → ℕ → ℕ → ℕ → SpanCommand R → Bool
lies_in b head n (Load k) = nat_lt k (touched b head n)
lies_in b head n (Store k word) = nat_lt k (touched b head n)
lies_in b head n (Set k) = nat_lt k (touched b head n)
lies_in b head n (Clear k) = nat_lt k (touched b head n)
lies_in b head n (Invert k) = nat_lt k (touched b head n)
lies_in b head n (Read i) = nat_lt i n
lies_in b head n (Replace i bit) = nat_lt i n
lies_in b head n (Swap i j) = nat_lt i n && nat_lt j n
lies_in b head n (Copy from to count) = nat_le (from + count) n && nat_le (to + count) n

-- the digit at index i of the list's word k: the bit of the list that stands there, and false outside the list
unfoldable pub own_digit : ℕ → ℕ → List Bool → ℕ → ℕ → Bool
own_digit b head bits k i =
    if nat_le head (k * b + i) then slice_index_or bits (k * b + i - head) false else false

-- the digits of the list's word k
abbrev pub own_word : ℕ → ℕ → List Bool → ℕ → List Bool
own_word b head bits k = map (own_digit b head bits k) (range_with_len 0 b)

-- the list with each bit of its word k made `now` of its index there and what it was
unfoldable pub over_word : ℕ → ℕ → ℕ → (ℕ → Bool → Bool) → List Bool → List Bool
over_word b head k now bits =
    map
    (λ i. if (head + i) / b == k then now ((head + i) % b) (slice_index_or bits i false)
    else slice_index_or bits i false)
    (range_with_len 0 (length bits))

-- what a command with its numbers in range makes of the list
abbrev pub own_edit : {R : Type 0} → Reading R → ℕ → SpanCommand R → List Bool → List Bool
own_edit reading head (Load k) bits = bits
own_edit reading head (Store k word) bits = over_word reading.bits head k (λ i _. reading.digit word i) bits
own_edit reading head (Set k) bits = over_word reading.bits head k (λ _ _. true) bits
own_edit reading head (Clear k) bits = over_word reading.bits head k (λ _ _. false) bits
own_edit reading head (Invert k) bits = over_word reading.bits head k (λ _ was. not was) bits
own_edit reading head (Read i) bits = bits
own_edit reading head (Replace i bit) bits = slice_set bits i bit
own_edit reading head (Swap i j) bits =
    slice_set (slice_set bits i (slice_index_or bits j false)) j (slice_index_or bits i false)
own_edit reading head (Copy from to count) bits = with_piece bits to (piece bits from count)

-- what a command makes of the list: nothing, where a number is out of range
unfoldable pub own_after : {R : Type 0} → Reading R → ℕ → SpanCommand R → List Bool → List Bool
own_after reading head command bits =
    if lies_in reading.bits head (length bits) command then own_edit reading head command bits else bits

-- what is answered to a command with its numbers in range, a word by its digits: what stood in the list
abbrev pub own_reading : {R : Type 0} → ℕ → ℕ → SpanCommand R → List Bool → SpanReply (List Bool)
own_reading b head (Load k) bits = Word (own_word b head bits k)
own_reading b head (Store k word) bits = Word (own_word b head bits k)
own_reading b head (Set k) bits = Word (own_word b head bits k)
own_reading b head (Clear k) bits = Word (own_word b head bits k)
own_reading b head (Invert k) bits = Word (own_word b head bits k)
own_reading b head (Read i) bits = Bit (slice_index_or bits i false)
own_reading b head (Replace i bit) bits = Bit (slice_index_or bits i false)
own_reading b head (Swap i j) bits = Done
own_reading b head (Copy from to count) bits = Done

-- what is answered to a command: a refusal, where a number is out of range
unfoldable pub own_answer : {R : Type 0} → ℕ → ℕ → SpanCommand R → List Bool → SpanReply (List Bool)
own_answer b head command bits =
    if lies_in b head (length bits) command then own_reading b head command bits else Refused

-- the list after one command after another
unfoldable pub own_list : {R : Type 0} → Reading R → ℕ → List (SpanCommand R) → List Bool → List Bool
own_list reading head [] bits = bits
own_list reading head (command ∷ rest) bits = own_list reading head rest (own_after reading head command bits)

-- what is answered to one command after another
unfoldable pub own_answers : {R : Type 0} → Reading R → ℕ → List (SpanCommand R) → List Bool
    → List (SpanReply (List Bool))
own_answers reading head [] bits = []
own_answers reading head (command ∷ rest) bits =
    own_answer reading.bits head command bits ∷ own_answers reading head rest (own_after reading head command bits)

-- a reply with its word, where it has one, by its digits
abbrev pub seen : {R : Type 0} → Reading R → SpanReply R → SpanReply (List Bool)
seen reading (Word word) = Word (digits reading word)
seen reading (Bit bit) = Bit bit
seen reading Done = Done
seen reading Refused = Refused
