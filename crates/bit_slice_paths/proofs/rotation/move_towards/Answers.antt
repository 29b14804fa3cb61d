use Rattle.bit_addressing_memory.proofs.Common.{◌≡◌, ◌+◌, ◌*◌, ◌/◌, ◌%◌, arith, read_by}
use Rattle.bit_slice_paths.proofs.RotationLemmas.{rotated_more}
use Rattle.bit_slice_paths.proofs.rotation.move_towards.Goals as goal

pub loop-k-preserved : goal.loop-k-preserved
loop-k-preserved g c =
    let k = c.loop-k.k in
    rotated_more (read_by g.R.BitRegister g.O.Positions.position) c.args.end c.args.words.now c.loop-k.words
    c.hold.new.words c.args.place c.args.len (64 * k) 64 (64 * (k + 1)) (omega arith) (omega arith) c.loop-k.invariant
    c.hold.ensures

pub returns-then-rest-gt0 : goal.returns-then-rest-gt0
returns-then-rest-gt0 g c =
    let whole : c.loop-k.k ≡ c.args.by / 64 = omega arith in
    rotated_more (read_by g.R.BitRegister g.O.Positions.position) c.args.end c.args.words.now c.loop-k.words
    c.hold-then-rest-gt0.new.words c.args.place c.args.len (64 * (c.args.by / 64)) (c.args.by % 64) c.args.by (omega arith)
    c.requires.most (rw whole at c.loop-k.invariant) c.hold-then-rest-gt0.ensures
