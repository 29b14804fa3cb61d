use Rattle.std.proofs.Common.{◌≡◌, ◌+◌, ◌-◌, ◌≤◌, length, min, refl, sym, ap, ◌∙◌, arith}
use Rattle.bit_addressing_memory.specs.Memory.{piece}
use Rattle.bit_addressing_memory.proofs.MemoryLemmas.{piece_none}
use Rattle.bit_slice_views.specs.Texts.{number_of}
use Rattle.bit_slice_views.proofs.TextLemmas.{bit_small, group_small, number_more, piece_ends}
use Rattle.bit_slice_views.proofs.text.group_at.Goals as goal

pub loop-i-init : goal.loop-i-init
loop-i-init g c = sym (ap number_of (piece_none (g.V.Bits.bits c.args.view.now) c.args.from 0 refl))

pub overflow_mul-number : goal.overflow_mul-number
overflow_mul-number g c =
    let within : c.args.from + c.loop-i.i ≤ length (g.V.Bits.bits c.args.view.now) = omega arith in
    omega (arith, group_small (g.V.Bits.bits c.args.view.now) c.args.from c.loop-i.i within (omega arith))

pub overflow_add-number : goal.overflow_add-number
overflow_add-number g c =
    let within : c.args.from + c.loop-i.i ≤ length (g.V.Bits.bits c.args.view.now) = omega arith in
    omega (
      arith,
      group_small (g.V.Bits.bits c.args.view.now) c.args.from c.loop-i.i within (omega arith),
      bit_small c.bit.result,
      c.from.ensures,
    )

pub loop-i-preserved : goal.loop-i-preserved
loop-i-preserved g c =
    let more = number_more (g.V.Bits.bits c.args.view.now) c.args.from c.loop-i.i (omega arith) in
    cc (more, c.loop-i.invariant, c.from.ensures, c.bit.ensures)

pub returns : goal.returns
returns g c =
    let bits = g.V.Bits.bits c.args.view.now in
    let all : c.loop-i.i ≡ min c.args.size (length bits - c.args.from) = omega arith in
    c.loop-i.invariant ∙ ap (λ n. number_of (piece bits c.args.from n)) all
    ∙ ap number_of (piece_ends bits c.args.from c.args.size c.requires.within)
