-- The commands that write the bits of a word. No public clause cites this module.
use Rattle.std.specs.Prelude.{ℕ, Bool, true, false, not}
use Rattle.bit_addressing_memory.specs.Memory.{Reading}
use Rattle.bit_addressing.specs.declared.command.SpanCommand.{SpanCommand}
use Rattle.bit_addressing.specs.declared.command.SpanCommand.TheVariants.{Store, Set, Clear, Invert}
use Rattle.bit_addressing.specs.declared.one_command.WordEdit.{WordEdit}
use Rattle.bit_addressing.specs.declared.one_command.WordEdit.TheVariants.{Value, Ones, Zeros, Inverted}

-- the command by which word k becomes this
abbrev pub word_command : {R : Type 0} → ℕ → WordEdit R → SpanCommand R
word_command k (Value word) = Store k word
word_command k Ones = Set k
word_command k Zeros = Clear k
word_command k Inverted = Invert k

-- what each bit becomes, by its index and what it was
abbrev pub bit_after : {R : Type 0} → Reading R → WordEdit R → ℕ → Bool → Bool
bit_after reading (Value word) i was = reading.digit word i
bit_after reading Ones i was = true
bit_after reading Zeros i was = false
bit_after reading Inverted i was = not was
