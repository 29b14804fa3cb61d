use Rattle.std.proofs.Common.{◌≡◌, ◌-◌, ◌^◌, min, take}
use Rattle.bit_table_layout.specs.Numerals.{number_of}
use Rattle.bit_table_layout.proofs.numerals.number_up_to_64_bits.Given as goal

abbrev pub invariant-loop-byte : goal.invariant-loop-byte
invariant-loop-byte l = l.number ≡ min (number_of (take l.byte-index l.word)) (2 ^ 64 - 1)
