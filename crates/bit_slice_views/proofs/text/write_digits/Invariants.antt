use Rattle.std.proofs.Common.{◌≡◌, ◌*◌, false, map}
use Rattle.std.specs.Fmt.{HasWritten, IsPlainFormatter, digits}
use Rattle.std.specs.List.{range_with_len}
use Rattle.bit_addressing_memory.specs.Memory.{piece}
use Rattle.bit_addressing_span.specs.Texts.{joined_text, begun_after}
use Rattle.bit_slice_views.specs.Texts.{number_of}
use Rattle.bit_slice_views.proofs.text.write_digits.Given as goal

-- the digits so far are written
abbrev pub invariant-loop-j : goal.invariant-loop-j
invariant-loop-j g l =
    let so_far = map (λ j. number_of (piece (g.V.Bits.bits l.view) (j * l.size) l.size)) (range_with_len 0 l.j) in
    (l.begun ≡ begun_after false so_far)
    × (IsPlainFormatter l.initial.f → HasWritten g.W.Write.write_str_gives l.initial.f
    (joined_text (digits 16 l.upper) false so_far) l.f)
