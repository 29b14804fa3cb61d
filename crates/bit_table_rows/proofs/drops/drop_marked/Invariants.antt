use Rattle.std.proofs.Common.{◌≡◌, ◌≢◌, ℕ, ◌<◌, ◌≤◌, length, get_or, not}
use Rattle.std.specs.List.{count_by}
use Rattle.bit_addressing_memory.specs.Memory.{read_by, touched}
use Rattle.bit_containers_vector.specs.Vector.{vec_bits}
use Rattle.bit_table_rows.specs.Lists.{HasBits}
use Rattle.bit_table_rows.specs.Walk.{IsWalked}
use Rattle.bit_table_rows.specs.RowsKept.{left_of}
use Rattle.bit_table_rows.proofs.drops.drop_marked.Given as goal

-- the letter's own list is as it was
abbrev pub invariant-loop-i : goal.invariant-loop-i
invariant-loop-i g l =
    let reading = read_by g.T.BitRegister g.O.Positions.position in
    record {
      walked : (d : _) → IsWalked (λ k old new. k ≢ l.letter
          → HasBits reading (left_of (vec_bits reading (get_or l.initial.lists l.letter d))) old new)
          l.i l.initial.lists l.lists;
      flags : (d : _) → get_or l.lists l.letter d ≡ get_or l.initial.lists l.letter d;
      count : length l.writes ≡ length l.initial.writes;
      writes : (k e : ℕ) (d : _) → k < l.i → get_or l.writes k e
          ≤ touched g.T.BitRegister.BITS 0 (count_by not (vec_bits reading (get_or l.initial.lists l.letter d)));
      own : l.letter < l.i → get_or l.writes l.letter 0 ≡ 0;
    }
