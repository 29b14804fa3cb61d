use Rattle.bit_addressing_memory.proofs.Common.{◌≡◌, ◌+◌, ◌-◌, ◌*◌, ◌<◌, ◌≤◌, ◌∙◌, length, refl, ap, arith, entry, get_or}
use Rattle.bit_addressing_memory.proofs.Common.{read_by}
use Rattle.bit_addressing_memory.specs.Sweep.{sweep_words}
use Rattle.bit_addressing_memory.proofs.EntryLemmas.{entry_read}
use Rattle.bit_addressing_memory.proofs.ShiftedWords.{begins_across, begins_inside, less_words}
use Rattle.bit_addressing_memory.proofs.one_place.bits_beside.Goals as goal

pub returns-then-upto-bits_of-clause-digits : goal.returns-then-upto-bits_of-clause-digits
returns-then-upto-bits_of-clause-digits g c i from low =
    let reading = read_by g.R.BitRegister g.O.Positions.position in
    let words = sweep_words c.args.sweep.now in
    let within = rw c.in-Up.is at c.requires.within in
    let place = c.args.k * reading.bits + 1 in
    let on : place + i ≡ c.args.k * reading.bits + i + 1 = omega arith in
    let inside : i < reading.bits - 1 = omega (arith, c.if-upto-bits_of.true, c.bits_of.ensures) in
    rw c.in-Up.is (begins_inside reading words place (reading.bits - 1) c.args.k 1 c.args.own c.joined.result refl
    (omega arith) (less_words c.args.k (length words) reading.bits (omega arith)) c.requires.own c.joined.ensures.from_first i inside
    ∙ ap (entry reading words) on)

pub read-behind-requires : goal.read-behind-requires
read-behind-requires g c =
    let within = rw c.in-Up.is at c.requires.within in
    less_words (c.args.k + 1) (length (sweep_words c.args.sweep.now)) g.R.BitRegister.BITS
    (omega (arith, c.if-upto-bits_of.false, c.bits_of.ensures))

pub returns-else-upto-bits_of-clause-digits : goal.returns-else-upto-bits_of-clause-digits
returns-else-upto-bits_of-clause-digits g c i from low =
    let reading = read_by g.R.BitRegister g.O.Positions.position in
    let words = sweep_words c.args.sweep.now in
    let within = rw c.in-Up.is at c.requires.within in
    let place = c.args.k * reading.bits + 1 in
    let on : place + i ≡ c.args.k * reading.bits + i + 1 = omega arith in
    let next : c.args.k + 1 < length words =
    less_words (c.args.k + 1) (length words) reading.bits (omega (arith, c.if-upto-bits_of.false, c.bits_of.ensures)) in
    let most : reading.bits ≤ reading.bits = omega arith in
    rw c.in-Up.is (begins_across reading words place reading.bits c.args.k 1 c.args.own c.read-behind.result
    c.joined-in-Up.result refl (omega (arith, g.met.R.BitRegister.least_bits)) most next c.requires.own
    c.read-behind.ensures.value c.joined-in-Up.ensures i (omega (arith, c.requires.index)) ∙ ap (entry reading words) on)

pub returns-then-from-gt0-clause-digits : goal.returns-then-from-gt0-clause-digits
returns-then-from-gt0-clause-digits g c i low high =
    let reading = read_by g.R.BitRegister g.O.Positions.position in
    let words = sweep_words c.args.sweep.now in
    let within = rw c.in-Down.is at c.requires.within in
    let back : c.args.k * reading.bits + (i - 1) ≡ c.args.k * reading.bits + i - 1 = omega (arith, c.if-from-gt0.true) in
    let small : i < reading.bits = omega (arith, c.requires.index) in
    rw c.in-Down.is (c.raised.ensures.raised i (omega (arith, c.if-from-gt0.true)) small
    ∙ entry_read reading words c.args.k (i - 1) c.args.own (omega arith)
    (less_words c.args.k (length words) reading.bits (omega arith)) c.requires.own
    ∙ ap (entry reading words) back)

pub returns-else-from-gt0-clause-digits : goal.returns-else-from-gt0-clause-digits
returns-else-from-gt0-clause-digits g c i low high =
    let reading = read_by g.R.BitRegister g.O.Positions.position in
    let words = sweep_words c.args.sweep.now in
    let b = reading.bits in
    let j = c.args.k - 1 in
    let within = rw c.in-Down.is at c.requires.within in
    let before = rw c.in-Down.is at c.requires.before in
    let some : 0 < c.args.k = less_words 0 c.args.k b (omega (arith, c.if-from-gt0.false)) in
    let here : j + 1 ≡ c.args.k = omega arith in
    let row = ap (λ n. n * b) here in
    let back : j * b + (b - 1) + i ≡ c.args.k * b + i - 1 = omega (arith, row, g.met.R.BitRegister.least_bits) in
    let there : j + 1 < length words = rw here (less_words c.args.k (length words) b (omega arith)) in
    let own : c.args.own ≡ get_or words (j + 1) c.args.own = rw here c.requires.own in
    let most : b ≤ b = omega arith in
    rw c.in-Down.is (begins_across reading words (j * b + (b - 1)) b j (b - 1) c.read-before.result c.args.own
    c.joined-in-Down.result refl (omega (arith, g.met.R.BitRegister.least_bits)) most there c.read-before.ensures.value own
    (rw c.BITS.ensures at c.joined-in-Down.ensures) i (omega (arith, c.requires.index)) ∙ ap (entry reading words) back)
