use Rattle.bit_addressing_memory.proofs.Common.{◌≡◌, ◌+◌, ◌-◌, ◌*◌, ◌/◌, ◌%◌, refl, arith, read_by}
use Rattle.bit_slice_paths.proofs.MirrorLemmas.{mirrored_more, mirrored_all, mirrored_rest}
use Rattle.bit_slice_paths.proofs.mirror.reverse.Goals as goal

pub loop-k-preserved : goal.loop-k-preserved
loop-k-preserved g c =
    let k = c.loop-k.k in
    let first = c.args.place + 64 * k in
    let second = c.args.place + (c.args.len - 64 * k - 64) in
    mirrored_more (read_by g.R.BitRegister g.O.Positions.position) c.args.words.now c.loop-k.words
    c.turn_wholes.new.words c.args.place c.args.len (64 * k) first (second + 64 - first) 64 (64 * (k + 1)) refl
    (omega arith) (omega arith) (omega arith) c.loop-k.invariant c.turn_wholes.ensures

pub returns-then-left-gt64 : goal.returns-then-left-gt64
returns-then-left-gt64 g c =
    let reading = read_by g.R.BitRegister g.O.Positions.position in
    let whole : c.loop-k.k ≡ c.args.len / 128 = omega arith in
    let done = 64 * (c.args.len / 128) in
    let half = c.args.len % 128 / 2 in
    let first = c.args.place + done in
    let second = c.args.place + (c.args.len - done - half) in
    mirrored_all reading c.args.words.now c.turn_ends.new.words c.args.place c.args.len (done + half) (omega arith)
    (mirrored_more reading c.args.words.now c.loop-k.words c.turn_ends.new.words c.args.place c.args.len done first
    (second + half - first) half (done + half) refl (omega arith) (omega arith) refl
    (rw whole at c.loop-k.invariant) c.turn_ends.ensures)

pub returns-then-left-gt1 : goal.returns-then-left-gt1
returns-then-left-gt1 g c =
    let reading = read_by g.R.BitRegister g.O.Positions.position in
    let whole : c.loop-k.k ≡ c.args.len / 128 = omega arith in
    let done = 64 * (c.args.len / 128) in
    mirrored_rest reading c.args.words.now c.loop-k.words c.turn_rest.new.words c.args.place c.args.len done
    (c.args.place + done) (c.args.len % 128) refl (omega arith) (rw whole at c.loop-k.invariant) c.turn_rest.ensures
