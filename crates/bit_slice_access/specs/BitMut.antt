-- One bit that is written: the window that it is a bit of, and where.
use Rattle.std.specs.Prelude.{ℕ}
use Rattle.bit_slice_access.specs.declared.bit_mut.BitMut.{BitMut}

-- the window
abbrev pub bit_view : {V S O : Type 0} {m b r c p : _} → BitMut V S O m b r c p → V
bit_view bit = bit.of.now

-- the loan of the window
abbrev pub bit_loan : {V S O : Type 0} {m b r c p : _} → BitMut V S O m b r c p → ℕ
bit_loan bit = bit.of.ghost_name

-- the index of the bit
abbrev pub bit_index : {V S O : Type 0} {m b r c p : _} → BitMut V S O m b r c p → ℕ
bit_index bit = bit.at
