use Rattle.std.proofs.Common.{◌≡◌, ◌+◌, ◌*◌, ◌<◌, ◌≤◌, ℕ, length, ap, arith, rules}
use Rattle.bit_addressing_memory.specs.Memory.{memory, piece, read_by}
use Rattle.bit_addressing_memory.specs.Sweep.{sweep_words}
use Rattle.bit_slice_tests.proofs.SweepLemmas.{some_word}
use Rattle.bit_slice_tests.proofs.by_words.put_first_word.Goals as goal

pub sweep-requires-clause-callable : goal.sweep-requires-clause-callable
sweep-requires-clause-callable g c s fresh same =
    let view = c.from_place_mut-view.result in
    let made = c.from_place_mut-view.ensures in
    let reading = read_by g.T.BitRegister g.O.Positions.position in
    let n : ℕ = length (piece (memory reading view.words.now) view.head view.len) in
    let positive : 0 < g.T.BitRegister.BITS = omega (arith, g.met.T.BitRegister.least_bits) in
    let some : 0 < n = omega (arith, made.len, c.requires.some) in
    let count : length view.words.now * g.T.BitRegister.BITS ≡ length c.args.words.now * g.T.BitRegister.BITS =
    ap (λ ws. length ws * g.T.BitRegister.BITS) made.words in
    let fits : view.head + n ≤ length view.words.now * g.T.BitRegister.BITS =
    omega (arith, made.len, made.place, count, c.requires.fits) in
    let size = ap length same in
    let many : 1 ≤ length (sweep_words s.now) =
    omega (arith, size, some_word view.words.now g.T.BitRegister.BITS view.head n positive some fits) in
    search (rules, many, fresh)
