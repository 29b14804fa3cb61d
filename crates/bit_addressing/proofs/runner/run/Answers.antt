use Rattle.std.proofs.Common.{◌≡◌, ℕ, ◌<◌, length, take, get_or, inl, inr, arith}
use Rattle.std.proofs.lemmas.Bool.{cases_lt}
use Rattle.std.proofs.lemmas.List.{take_more, take_more_set, length-take-le, get_or_default}
use Rattle.bit_addressing_memory.specs.Memory.{read_by}
use Rattle.bit_addressing.proofs.RunLemmas.{runs_none, runs_carried, runs_refused}
use Rattle.bit_addressing.proofs.runner.run.Goals as goal

pub loop-k-init : goal.loop-k-init
loop-k-init g c =
    runs_none (read_by g.R.BitRegister g.O.Positions.position) c.args.memory.now
    c.args.spans.now

pub loop-k-preserved : goal.loop-k-preserved
loop-k-preserved g c =
    let b = g.R.BitRegister.BITS in
    let reading = read_by g.R.BitRegister g.O.Positions.position in
    let spans = c.args.spans.now in
    let k : ℕ = c.loop-k.k in
    let some : 0 < b = omega (arith, g.met.R.BitRegister.least_bits) in
    let within : k < length c.args.commands.now = omega arith in
    let place : k < length c.loop-k.replies = omega arith in
    let reply = c.run_at.result in
    let next = get_or c.args.commands.now k c.index-commands-k.result in
    let one_read = get_or_default c.args.commands.now k c.index-commands-k-in-loop-k.result
    c.index-commands-k.result within in
    let carried = rw one_read at c.run_at.ensures.carried in
    let commands = take k c.args.commands.now in
    let replies = take k c.loop-k.replies in
    let same : length commands ≡ length replies =
    omega (
      arith,
      length-take-le k c.args.commands.now (omega arith),
      length-take-le k c.loop-k.replies (omega arith),
    ) in
    rw (take_more c.args.commands.now k c.index-commands-k.result within, take_more_set c.loop-k.replies k reply place)
    (elim (cases_lt next.0 (length spans)) [
      | inl at ↦
          runs_carried reading c.args.memory.now c.loop-k.memory c.run_at.new.memory spans commands replies next
          reply some c.requires.disjoint same at (carried at) c.loop-k.invariant
      | inr past ↦
          rw (c.run_at.ensures.same past)
          (runs_refused reading c.args.memory.now c.loop-k.memory spans commands replies next reply same past
          (c.run_at.ensures.refused past) c.loop-k.invariant)
    ])
