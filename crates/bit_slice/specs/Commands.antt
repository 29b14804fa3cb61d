-- What commands do to a window's list of bits, and what is replied.
--
-- Whether a command is in range: `is_in_range`. One command: `list_after`, `reply_to`; one in range: `edited`, `told`.
-- One after another: `lists_after`, `replies_to`. `bits_of` gives the list of a right side.
use Rattle.std.specs.Prelude.{ℕ, ◌+◌, ◌-◌, ◌&&◌, ◌||◌, ◌==◌, ◌++◌, Bool, true, false, not, List, [], ◌∷◌}
use Rattle.std.specs.Prelude.{count_by, drop, if◌then◌else◌, length, map, nat_le, nat_lt, position, replicate, reverse}
use Rattle.std.specs.Prelude.{slice_index_or, slice_set, take}
use Rattle.std.specs.Bool.{beq, xor}
use Rattle.std.specs.Cmp.Lexicographic.{pointwise}
use Rattle.bit_addressing_memory.specs.Memory.{piece, with_piece}
use Rattle.bit_slice_words.specs.Found.{is_bit, last_position}
use Rattle.bit_slice_views_mut.specs.Combined.{combined}
use Rattle.bit_slice.specs.declared.command.WindowCommand.{WindowCommand}
use Rattle.bit_slice.specs.declared.command.WindowCommand.TheVariants.{Set, Replace, Swap, Fill, Reverse}
use Rattle.bit_slice.specs.declared.command.WindowCommand.TheVariants.{RotateLeft, RotateRight, CopyWithin}
use Rattle.bit_slice.specs.declared.command.WindowCommand.TheVariants.{CopyFrom, And, Or, Xor, Not}
use Rattle.bit_slice.specs.declared.command.WindowCommand.TheVariants.{CountOnes, FirstOne, LastOne, Equal}
use Rattle.bit_slice.specs.declared.command.WindowCommand.TheVariants.{Read}
use Rattle.bit_slice.specs.declared.command.WindowReply.{WindowReply}
use Rattle.bit_slice.specs.declared.command.WindowReply.TheVariants.{Done, Bit, Count, Place, Refused}

-- the indices and lengths of a command are in range at a list of n bits
abbrev pub is_in_range : {W : Type 0} → (W → List Bool) → ℕ → WindowCommand W → Bool
is_in_range bits_of n (Set i bit) = nat_lt i n
is_in_range bits_of n (Replace i bit) = nat_lt i n
is_in_range bits_of n (Swap i j) = nat_lt i n && nat_lt j n
is_in_range bits_of n (Fill bit) = true
is_in_range bits_of n Reverse = true
is_in_range bits_of n (RotateLeft by) = nat_le by n
is_in_range bits_of n (RotateRight by) = nat_le by n
is_in_range bits_of n (CopyWithin from upto dest) =
    nat_le from upto && nat_le upto n && nat_le (dest + (upto - from)) n
is_in_range bits_of n (CopyFrom other) = length (bits_of other) == n
is_in_range bits_of n (And other) = true
is_in_range bits_of n (Or other) = true
is_in_range bits_of n (Xor other) = true
is_in_range bits_of n Not = true
is_in_range bits_of n CountOnes = true
is_in_range bits_of n FirstOne = true
is_in_range bits_of n LastOne = true
is_in_range bits_of n (Equal other) = true
is_in_range bits_of n (Read i) = nat_lt i n

-- what a command in range makes of the list
abbrev pub edited : {W : Type 0} → (W → List Bool) → WindowCommand W → List Bool → List Bool
edited bits_of (Set i bit) bits = slice_set bits i bit
edited bits_of (Replace i bit) bits = slice_set bits i bit
edited bits_of (Swap i j) bits =
    slice_set (slice_set bits i (slice_index_or bits j false)) j (slice_index_or bits i false)
edited bits_of (Fill bit) bits = replicate (length bits) bit
edited bits_of Reverse bits = reverse bits
edited bits_of (RotateLeft by) bits = drop by bits ++ take by bits
edited bits_of (RotateRight by) bits = drop (length bits - by) bits ++ take (length bits - by) bits
edited bits_of (CopyWithin from upto dest) bits = with_piece bits dest (piece bits from (upto - from))
edited bits_of (CopyFrom other) bits = bits_of other
edited bits_of (And other) bits = combined (λ a b. a && b) bits (bits_of other)
edited bits_of (Or other) bits = combined (λ a b. a || b) bits (bits_of other)
edited bits_of (Xor other) bits = combined xor bits (bits_of other)
edited bits_of Not bits = map not bits
edited bits_of CountOnes bits = bits
edited bits_of FirstOne bits = bits
edited bits_of LastOne bits = bits
edited bits_of (Equal other) bits = bits
edited bits_of (Read i) bits = bits

-- what is replied to a command in range
abbrev pub told : {W : Type 0} → (W → List Bool) → WindowCommand W → List Bool → WindowReply
told bits_of (Set i bit) bits = Done
told bits_of (Replace i bit) bits = Bit (slice_index_or bits i false)
told bits_of (Swap i j) bits = Done
told bits_of (Fill bit) bits = Done
told bits_of Reverse bits = Done
told bits_of (RotateLeft by) bits = Done
told bits_of (RotateRight by) bits = Done
told bits_of (CopyWithin from upto dest) bits = Done
told bits_of (CopyFrom other) bits = Done
told bits_of (And other) bits = Done
told bits_of (Or other) bits = Done
told bits_of (Xor other) bits = Done
told bits_of Not bits = Done
told bits_of CountOnes bits = Count (count_by (λ b. b) bits)
told bits_of FirstOne bits = Place (position (is_bit true) bits)
told bits_of LastOne bits = Place (last_position (is_bit true) bits)
told bits_of (Equal other) bits = Bit (pointwise beq bits (bits_of other))
told bits_of (Read i) bits = Bit (slice_index_or bits i false)

-- what a command makes of the list: nothing, where it is out of range
unfoldable pub list_after : {W : Type 0} → (W → List Bool) → WindowCommand W → List Bool → List Bool
list_after bits_of command bits =
    if is_in_range bits_of (length bits) command then edited bits_of command bits else bits

-- what is replied to a command: a refusal, where it is out of range
unfoldable pub reply_to : {W : Type 0} → (W → List Bool) → WindowCommand W → List Bool → WindowReply
reply_to bits_of command bits =
    if is_in_range bits_of (length bits) command then told bits_of command bits else Refused

-- the list after one command after another
unfoldable pub lists_after : {W : Type 0} → (W → List Bool) → List (WindowCommand W) → List Bool → List Bool
lists_after bits_of [] bits = bits
lists_after bits_of (command ∷ rest) bits = lists_after bits_of rest (list_after bits_of command bits)

-- what is replied to one command after another
unfoldable pub replies_to : {W : Type 0} → (W → List Bool) → List (WindowCommand W) → List Bool
    → List WindowReply
replies_to bits_of [] bits = []
replies_to bits_of (command ∷ rest) bits =
    reply_to bits_of command bits ∷ replies_to bits_of rest (list_after bits_of command bits)
