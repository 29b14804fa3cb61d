use Rattle.std.proofs.Common.{◌≡◌, map, reverse}
use Rattle.std.specs.List.{range_with_len}
use Rattle.bit_addressing_memory.specs.Memory.{read_by}
use Rattle.bit_slice_views.specs.View.{view_bits}
use Rattle.bit_table_layout.specs.Digits.{binary}
use Rattle.bit_table_image.proofs.ByteLemmas.{weighed}
use Rattle.bit_table_image.proofs.bytes.byte.Given as goal

-- the bits that were read are the highest, the first of them at the top
abbrev pub invariant-loop-index : goal.invariant-loop-index
invariant-loop-index g l =
    let bits = view_bits (read_by g.T.BitRegister g.O.Positions.position) l.bits in
    l.byte ≡ binary (reverse (map (weighed l.rule l.first bits) (range_with_len 0 l.index)))
