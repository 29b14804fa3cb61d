use Rattle.std.proofs.Common.{arith, ◌≡◌, ◌⊎◌, ◌<◌, ◌/◌, ◌%◌, inl, inr, length, get_or}
use Rattle.std.proofs.lemmas.Nat.{div_below}
use Rattle.bit_addressing_memory.specs.Memory.{read_by}
use Rattle.bit_addressing_memory.specs.Sweep.{sweep_words}
use Rattle.bit_table_rows.proofs.KeepLemmas.{word_begun}
use Rattle.bit_table_rows.proofs.keep.begun.Goals.{else-first-to-via-then-first-to+else-to-bits-gt0}
use Rattle.bit_table_rows.proofs.keep.begun.Goals.{else-first-to-via-else-first-to}
use Rattle.bit_table_rows.proofs.keep.begun.Goals as goal

pub returns-clause-filled : goal.returns-clause-filled
returns-clause-filled g c before bits had =
    let reading = read_by g.T.BitRegister g.O.Positions.position in
    let b = reading.bits in
    let words = sweep_words c.args.sweep.now in
    let some : 0 < b = omega (arith, g.met.T.BitRegister.least_bits) in
    let size : c.bits_of-bits.result ≡ b = c.bits_of-bits.ensures in
    let order = had.size in
    let start : (c.args.to ≡ c.args.first) ⊎ (c.args.to % b ≡ 0) = elim c.else-first-to.branch [
      | else-first-to-via-then-first-to+else-to-bits-gt0 w ↦
          let none = rw size at w.if-to-bits-gt0.false in
          inr (omega arith)
      | else-first-to-via-else-first-to w ↦ inl (omega arith)
    ] in
    let is : c.read.result ≡ get_or words (c.args.to / b) c.read.result =
    rw size at c.read.ensures.value in
    word_begun reading before words c.args.first c.args.to c.args.word bits some had c.read.result
    (div_below c.args.to b (length words) some c.requires.within) is start
