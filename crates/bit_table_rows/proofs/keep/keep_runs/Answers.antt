use Rattle.std.proofs.Common.{arith, ◌≡◌, ◌+◌, ◌-◌, ◌*◌, ◌<◌, ◌≤◌, ◌∙◌, ap, length, subst, sym}
use Rattle.bit_addressing_memory.proofs.Changes.{unchanged}
use Rattle.bit_addressing_memory.specs.Memory.{read_by}
use Rattle.bit_addressing_memory.specs.Sweep.{sweep_words, writes_of}
use Rattle.bit_slice_views.specs.View.{view_bits}
use Rattle.bit_table_rows.specs.KeepSteps.{AtRow}
use Rattle.bit_table_rows.specs.RowsKept.{left_before}
use Rattle.bit_table_rows.proofs.KeepRowLemmas.{at_gone, at_upto, kept_writes, keeps_rows}
use Rattle.bit_table_rows.proofs.KeptLemmas.{length-rows_left}
use Rattle.bit_table_rows.proofs.RowLemmas.{rows_below, rows_join}
use Rattle.bit_table_rows.proofs.keep.keep_runs.Goals as goal

-- rows that stay lie among all rows
pub keep_run-word-requires-clause-within : goal.keep_run-word-requires-clause-within
keep_run-word-requires-clause-within g c =
    let upto = c.stay_upto-upto.result in
    let order : c.rows.k ≤ upto = omega (arith, c.stay_upto-upto.ensures.low) in
    let words = ap (λ k. k * g.T.BitRegister.BITS) c.rows.invariant.at.fills.words in
    omega (
      arith,
      words,
      rows_join c.rows.k upto c.args.w order,
      rows_below upto c.args.n c.args.w c.stay_upto-upto.ensures.high,
      c.requires.within,
    )

pub keep_run-word-requires-clause-ends : goal.keep_run-word-requires-clause-ends
keep_run-word-requires-clause-ends g c =
    let upto = c.stay_upto-upto.result in
    let order : c.rows.k ≤ upto = omega (arith, c.stay_upto-upto.ensures.low) in
    omega (
      arith,
      rows_join c.rows.k upto c.args.w order,
      rows_below upto c.args.n c.args.w c.stay_upto-upto.ensures.high,
      c.requires.ends,
    )

pub rows-preserved-then-bit : goal.rows-preserved-then-bit
rows-preserved-then-bit g c =
    let reading = read_by g.T.BitRegister g.O.Positions.position in
    let off = view_bits reading c.args.off in
    let first = c.args.first in
    let zero = g.T.BitRegister.ZERO in
    let some : 0 < reading.bits = omega (arith, g.met.T.BitRegister.least_bits) in
    let low : c.rows.k < c.args.n = c.rows-test.true in
    let within : first + c.args.n * c.args.w ≤ length (sweep_words c.args.sweep.now) * reading.bits =
    c.requires.within in
    record {
      at = at_gone reading c.args.sweep.now c.rows.sweep zero c.rows.word first c.args.n c.args.w off c.rows.k
          c.rows.kept some low within c.rows.invariant.at (sym c.bit.ensures ∙ c.if-bit.true);
      inside = omega arith;
    }

-- and the row behind them goes
pub rows-preserved-then-k-n : goal.rows-preserved-then-k-n
rows-preserved-then-k-n g c =
    let reading = read_by g.T.BitRegister g.O.Positions.position in
    let off = view_bits reading c.args.off in
    let first = c.args.first in
    let zero = g.T.BitRegister.ZERO in
    let some : 0 < reading.bits = omega (arith, g.met.T.BitRegister.least_bits) in
    let within : first + c.args.n * c.args.w ≤ length (sweep_words c.args.sweep.now) * reading.bits =
    c.requires.within in
    let upto = c.stay_upto-upto.result in
    let at = at_upto reading c.args.sweep.now c.rows.sweep zero c.rows.word first c.args.n c.args.w off c.rows.k
    c.rows.kept some c.rows-test.true within c.rows.invariant.at c.keep_run-word.new.sweep c.keep_run-word.result upto
    (omega (arith, c.stay_upto-upto.ensures.low)) c.stay_upto-upto.ensures.high (sym c.bit.ensures ∙ c.if-bit.false)
    c.stay_upto-upto.ensures.stay c.keep_run-word.ensures in
    record {
      at = at_gone reading c.args.sweep.now c.keep_run-word.new.sweep zero c.keep_run-word.result first c.args.n c.args.w
          off upto (c.rows.kept + (upto - c.rows.k)) some c.if-k-n.true within at
          (c.stay_upto-upto.ensures.gone c.if-k-n.true);
      inside = omega arith;
    }

-- or there is none
pub rows-preserved : goal.rows-preserved
rows-preserved g c =
    let reading = read_by g.T.BitRegister g.O.Positions.position in
    let off = view_bits reading c.args.off in
    let first = c.args.first in
    let zero = g.T.BitRegister.ZERO in
    let some : 0 < reading.bits = omega (arith, g.met.T.BitRegister.least_bits) in
    let within : first + c.args.n * c.args.w ≤ length (sweep_words c.args.sweep.now) * reading.bits =
    c.requires.within in
    let upto = c.stay_upto-upto.result in
    let at = at_upto reading c.args.sweep.now c.rows.sweep zero c.rows.word first c.args.n c.args.w off c.rows.k
    c.rows.kept some c.rows-test.true within c.rows.invariant.at c.keep_run-word.new.sweep c.keep_run-word.result upto
    (omega (arith, c.stay_upto-upto.ensures.low)) c.stay_upto-upto.ensures.high (sym c.bit.ensures ∙ c.if-bit.false)
    c.stay_upto-upto.ensures.stay c.keep_run-word.ensures in
    record { at = at; inside = c.stay_upto-upto.ensures.high }

pub returns-clause-count : goal.returns-clause-count
returns-clause-count g c =
    let off = view_bits (read_by g.T.BitRegister g.O.Positions.position) c.args.off in
    let all : c.rows.k ≡ length off = omega arith in
    c.rows.invariant.at.count_is ∙ ap (λ k. length (left_before off k)) all ∙ length-rows_left off

pub returns-clause-rows : goal.returns-clause-rows
returns-clause-rows g c =
    let reading = read_by g.T.BitRegister g.O.Positions.position in
    let off = view_bits reading c.args.off in
    let first = c.args.first in
    let zero = g.T.BitRegister.ZERO in
    let some : 0 < reading.bits = omega (arith, g.met.T.BitRegister.least_bits) in
    let all : c.rows.k ≡ c.args.n = omega arith in
    let at : AtRow reading c.args.sweep.now c.rows.sweep zero c.rows.word first c.args.n c.args.w off c.args.n
    c.rows.kept =
    subst (λ k. AtRow reading c.args.sweep.now c.rows.sweep zero c.rows.word first c.args.n c.args.w off k c.rows.kept)
    all c.rows.invariant.at in
    let within : first + c.args.n * c.args.w ≤ length (sweep_words c.args.sweep.now) * reading.bits =
    c.requires.within in
    keeps_rows reading c.args.sweep.now c.rows.sweep zero c.rows.word first c.args.n c.args.w off c.rows.kept some
    c.requires.flags within at (sweep_words c.put_rest.new.sweep) c.put_rest.ensures.filled

pub returns-clause-writes : goal.returns-clause-writes
returns-clause-writes g c =
    let reading = read_by g.T.BitRegister g.O.Positions.position in
    let off = view_bits reading c.args.off in
    let first = c.args.first in
    let zero = g.T.BitRegister.ZERO in
    let some : 0 < reading.bits = omega (arith, g.met.T.BitRegister.least_bits) in
    let all : c.rows.k ≡ c.args.n = omega arith in
    let at : AtRow reading c.args.sweep.now c.rows.sweep zero c.rows.word first c.args.n c.args.w off c.args.n
    c.rows.kept =
    subst (λ k. AtRow reading c.args.sweep.now c.rows.sweep zero c.rows.word first c.args.n c.args.w off k c.rows.kept)
    all c.rows.invariant.at in
    let within : first + c.args.n * c.args.w ≤ length (sweep_words c.args.sweep.now) * reading.bits =
    c.requires.within in
    kept_writes reading c.args.sweep.now c.rows.sweep zero c.rows.word first c.args.n c.args.w off c.rows.kept some
    c.requires.flags within at (writes_of c.put_rest.new.sweep) c.requires.writes c.put_rest.ensures.writes

pub returns-clause-changed : goal.returns-clause-changed
returns-clause-changed g c =
    let number = g.T.BitRegister.number in
    let words = sweep_words c.args.sweep.now in
    omega (
      arith,
      c.put_rest.ensures.changed words,
      c.rows.invariant.at.fills.few_changed number words,
      unchanged number words,
      c.requires.writes,
    )
