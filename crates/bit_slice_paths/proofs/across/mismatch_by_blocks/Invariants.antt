use Rattle.bit_addressing_memory.proofs.Common.{◌≡◌, ℕ, ◌+◌, ◌*◌, ◌<◌, entry, read_by}
use Rattle.bit_slice_paths.proofs.across.mismatch_by_blocks.Given as goal

-- the bits so far are the same
abbrev pub invariant-loop-k : goal.invariant-loop-k
invariant-loop-k g l = record {
  count : l.done ≡ l.before + 64 * l.k;
  same : (i : ℕ) → i < l.done
      → entry (read_by g.R.BitRegister g.O.Positions.position) l.words (l.place + i)
      ≡ entry (read_by g.Q.BitRegister g.P.Positions.position) l.others (l.other_place + i);
}
