use Rattle.std.proofs.Common.{◌<◌, arith}
use Rattle.bit_slice.specs.Memory.{read_by}
use Rattle.bit_containers.proofs.RetainLemmas.{leaves_first}
use Rattle.bit_containers.proofs.retain.BitVecRetain.retain.Goals as goal

pub returns-clause-kept : goal.returns-clause-kept
returns-clause-kept g c = rw c.truncate.ensures.bits c.gather-kept.ensures.kept

pub returns-clause-left : goal.returns-clause-left
returns-clause-left g c =
    let some : 0 < g.T.BitRegister.BITS = omega (arith, g.met.T.BitRegister.least_bits) in
    let old = c.args.self.now in
    let mid = c.gather-kept.new.bits in
    let moved = c.gather-kept.ensures in
    leaves_first (read_by g.T.BitRegister g.O.Positions.position) old mid c.truncate.new.self c.gather-kept.result some
    old.fits mid.fits moved.frame moved.len moved.most moved.rest c.truncate.ensures
