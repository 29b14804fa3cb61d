use Rattle.std.proofs.Common.{◌≡◌, ◌≤◌, ℕ, pos, int_lt, false, ◌<◌}
use Rattle.column_table.specs.Widths.{take_both}
use Rattle.column_table.proofs.width.narrowest_between.Given as goal

-- no narrower kind takes both numbers
abbrev pub invariant-loop-width : goal.invariant-loop-width
invariant-loop-width l =
    (w : ℕ) → 1 ≤ w → w < l.width
    → take_both (record { signed = int_lt l.least (pos 0); width = w }) l.least l.greatest ≡ false
