use Rattle.std.proofs.Common.{◌≡◌, ◌*◌, map, take, drop}
use Rattle.std.specs.List.{range_with_len}
use Rattle.bit_addressing_memory.specs.Memory.{read_by}
use Rattle.bit_slice_views.specs.View.{view_bits}
use Rattle.bit_table_layout.specs.Images.{byte_of}
use Rattle.bit_table_image.proofs.bytes.bytes_singly.Given as goal

-- the bytes before this one were made
abbrev pub invariant-loop-index : goal.invariant-loop-index
invariant-loop-index g l =
    let bits = view_bits (read_by g.T.BitRegister g.O.Positions.position) l.bits in
    l.bytes.items ≡ map (λ k. byte_of l.rule (take 8 (drop (8 * k) bits))) (range_with_len 0 l.index)
