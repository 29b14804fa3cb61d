use Rattle.std.proofs.Common.{◌≡◌, ◌≤◌, length, take}
use Rattle.std.specs.Vec.{vec_capacity, vec_len}
use Rattle.bit_addressing_memory.specs.Memory.{read_by}
use Rattle.bit_slice_views.specs.View.{view_bits}
use Rattle.bit_slice.specs.Commands.{lists_after, replies_to}
use Rattle.bit_slice.proofs.runner.run_window.Given as goal

-- the commands so far are carried out and replied to, and there is room for the other replies
abbrev pub invariant-loop-command : goal.invariant-loop-command
invariant-loop-command g l =
    let bits_of = view_bits (read_by g.V.Store.BitRegister g.V.Order.Positions.position) in
    let done = take l.command-index l.commands in
    (g.V.Bits.bits l.view ≡ lists_after bits_of done (g.V.Bits.bits l.fn.view))
    × (l.replies.items ≡ replies_to bits_of done (g.V.Bits.bits l.fn.view))
    × (length (g.V.Bits.bits l.view) ≡ length (g.V.Bits.bits l.fn.view))
    × (g.V.BitsMut.frame l.view ≡ g.V.BitsMut.frame l.fn.view)
    × (vec_len l.replies ≡ l.command-index)
    × (length l.commands ≤ vec_capacity l.replies)
