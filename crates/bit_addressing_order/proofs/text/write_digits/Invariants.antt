use Rattle.std.proofs.Common.{◌≡◌, ℕ, ◌≤◌, List, ◌++◌}
use Rattle.std.specs.Fmt.{HasWritten, IsPlainFormatter}
use Rattle.bit_addressing_order.specs.Text.{binary_text}
use Rattle.bit_addressing_order.proofs.text.write_digits.Given as goal

-- what is written so far and the digits that are left make the text
abbrev pub invariant-loop-left : goal.invariant-loop-left
invariant-loop-left g l = (l.left ≤ l.count) × (IsPlainFormatter l.initial.f
    → (done : List ℕ) × HasWritten g.W.Write.write_str_gives l.initial.f done l.f
    × (done ++ binary_text l.left l.value ≡ binary_text l.count l.value))

abbrev pub decreases-loop-left : goal.decreases-loop-left
decreases-loop-left g l = l.left
