use Rattle.std.proofs.Common.{◌≡◌, ℕ, ◌<◌, ◌≤◌, false, length, get_or}
use Rattle.bit_addressing_memory.specs.Memory.{read_by}
use Rattle.bit_table_rows.specs.Lists.{HasBits}
use Rattle.bit_table_rows.specs.RowEdit.{edited_by, most_moved}
use Rattle.bit_table_rows.specs.Walk.{IsWalked}
use Rattle.bit_table_rows.proofs.lists.edit_lists.Given as goal

abbrev pub invariant-loop-i : goal.invariant-loop-i
invariant-loop-i g l =
    let reading = read_by g.T.BitRegister g.O.Positions.position in
    record {
      edited : IsWalked (λ k. HasBits reading (edited_by false l.edit)) l.i l.initial.lists l.lists;
      count : length l.writes ≡ length l.initial.writes;
      writes : (k d : ℕ) → k < l.i → get_or l.writes k d ≤ most_moved g.T.BitRegister.BITS 1 l.n l.edit;
    }
