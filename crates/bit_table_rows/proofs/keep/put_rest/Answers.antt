use Rattle.std.proofs.Common.{arith, ◌≡◌, ◌⊎◌, ◌<◌, ◌/◌, ◌%◌, inl, inr, length, set, ap}
use Rattle.bit_addressing_memory.proofs.Changes.{changed-set}
use Rattle.bit_addressing_memory.specs.Memory.{read_by}
use Rattle.bit_addressing_memory.specs.Moves.{changed}
use Rattle.bit_addressing_memory.specs.Sweep.{sweep_words}
use Rattle.bit_table_rows.proofs.KeepLemmas.{begun_within, rest_none, rest_put, touched_full}
use Rattle.bit_table_rows.proofs.KeepLemmas.{touched_none, touched_part}
use Rattle.bit_table_rows.proofs.keep.put_rest.Goals.{else-first-to-via-then-first-to+else-to-bits-gt0}
use Rattle.bit_table_rows.proofs.keep.put_rest.Goals.{else-first-to-via-else-first-to}
use Rattle.bit_table_rows.proofs.keep.put_rest.Goals as goal

pub returns-then-to-bits-gt0-clause-filled : goal.returns-then-to-bits-gt0-clause-filled
returns-then-to-bits-gt0-clause-filled g c before bits had =
    let reading = read_by g.T.BitRegister g.O.Positions.position in
    let b = reading.bits in
    let words = sweep_words c.args.sweep.now in
    let some : 0 < b = omega (arith, g.met.T.BitRegister.least_bits) in
    let size : c.bits_of-bits.result ≡ b = c.bits_of-bits.ensures in
    let index : 0 < c.args.to % b = rw size at c.if-to-bits-gt0.true in
    let within : c.args.to / b < length words =
    begun_within b c.args.to (length words) some c.requires.within index in
    let is : sweep_words c.put.new.self ≡ set words (c.args.to / b) c.args.word = rw size at c.put.ensures.words in
    rw is
    (rest_put reading before words c.args.first c.args.to c.args.word bits some had c.if-first-to.true index within)

pub returns-then-to-bits-gt0-clause-writes : goal.returns-then-to-bits-gt0-clause-writes
returns-then-to-bits-gt0-clause-writes g c =
    let b = g.T.BitRegister.BITS in
    let some : 0 < b = omega (arith, g.met.T.BitRegister.least_bits) in
    let size : c.bits_of-bits.result ≡ b = c.bits_of-bits.ensures in
    let index : 0 < c.args.to % b = rw size at c.if-to-bits-gt0.true in
    let count = touched_part b c.args.first c.args.to some c.if-first-to.true index in
    omega (arith, c.put.ensures.writes)

pub returns-then-to-bits-gt0-clause-changed : goal.returns-then-to-bits-gt0-clause-changed
returns-then-to-bits-gt0-clause-changed g c others =
    let number = g.T.BitRegister.number in
    let words = sweep_words c.args.sweep.now in
    let one = changed-set number others words (c.args.to / c.bits_of-bits.result) c.args.word in
    omega (arith, ap (changed number others) c.put.ensures.words, c.put.ensures.writes)

pub returns-else-first-to-clause-filled : goal.returns-else-first-to-clause-filled
returns-else-first-to-clause-filled g c before bits had =
    let reading = read_by g.T.BitRegister g.O.Positions.position in
    let b = reading.bits in
    let some : 0 < b = omega (arith, g.met.T.BitRegister.least_bits) in
    let size : c.bits_of-bits.result ≡ b = c.bits_of-bits.ensures in
    let none : (c.args.to ≡ c.args.first) ⊎ (c.args.to % b ≡ 0) = elim c.else-first-to.branch [
      | else-first-to-via-then-first-to+else-to-bits-gt0 w ↦
          let full = rw size at w.if-to-bits-gt0.false in
          inr (omega arith)
      | else-first-to-via-else-first-to w ↦ inl (omega arith)
    ] in
    rest_none reading before (sweep_words c.args.sweep.now) c.args.first c.args.to c.args.word bits some had none

pub returns-else-first-to-clause-writes : goal.returns-else-first-to-clause-writes
returns-else-first-to-clause-writes g c =
    let b = g.T.BitRegister.BITS in
    let some : 0 < b = omega (arith, g.met.T.BitRegister.least_bits) in
    let size : c.bits_of-bits.result ≡ b = c.bits_of-bits.ensures in
    elim c.else-first-to.branch [
      | else-first-to-via-then-first-to+else-to-bits-gt0 w ↦
          let full = rw size at w.if-to-bits-gt0.false in
          omega (arith, touched_full b c.args.first c.args.to some w.if-first-to.true (omega arith))
      | else-first-to-via-else-first-to w ↦
          omega (arith, touched_none b c.args.first c.args.to (omega arith))
    ]
