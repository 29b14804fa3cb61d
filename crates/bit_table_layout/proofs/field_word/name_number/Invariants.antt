use Rattle.std.proofs.Common.{◌≡◌, ℕ, ◌+◌, ◌^◌, ◌<◌, length, drop}
use Rattle.bit_table_layout.specs.Steps.{name_number}
use Rattle.bit_table_layout.proofs.field_word.name_number.Given as goal

abbrev pub invariant-loop-place : goal.invariant-loop-place
invariant-loop-place l =
    record {
      number : (k : ℕ) → k + l.place ≡ length l.name → l.number ≡ name_number (drop k l.name);
      below : l.number < 256 ^ l.place;
    }
