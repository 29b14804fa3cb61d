use Rattle.std.proofs.Common.{◌≡◌, ℕ, ◌+◌, ◌-◌, length, refl, arith}
use Rattle.std.proofs.Math.Nat.{suc-mul}
use Rattle.bit_addressing_memory.specs.Memory.{memory, piece, read_by}
use Rattle.bit_addressing_memory.proofs.WindowLemmas.{length-window}
use Rattle.bit_slice_fields.specs.Digits.{cut_weight}
use Rattle.bit_slice_fields.proofs.DigitsLemmas.{gathered_none, gathered_all}
use Rattle.bit_slice_fields.proofs.digits.gathered_by_words.Goals as goal

pub with_segment-digits-requires-clause-is : goal.with_segment-digits-requires-clause-is
with_segment-digits-requires-clause-is g c = record {
  some = omega arith;
  within = omega arith;
  inside = omega (arith, c.requires.more);
  place = omega arith;
  begins = λ behind. absurd (omega arith);
  ends = λ before. omega arith;
}

pub with_segment-digits-requires-clause-had : goal.with_segment-digits-requires-clause-had
with_segment-digits-requires-clause-had g c =
    let shown = piece (memory (read_by g.T.BitRegister g.O.Positions.position) c.args.words.now) c.args.cut.head c.args.n in
    gathered_none (cut_weight c.args.cut g.T.BitRegister.BITS c.args.n) shown

pub loop-from-init : goal.loop-from-init
loop-from-init g c =
    let first : ℕ = c.bits_of-bits.result - c.args.cut.head in
    let here : 0 + first ≡ first = omega arith in
    record {
      digits = rw here at c.with_segment-digits.ensures;
      place = omega arith;
      some = omega arith;
      few = omega arith;
      upto = omega (arith, c.requires.more);
    }

pub with_segment-digits-requires-in-loop-from-clause-is : goal.with_segment-digits-requires-in-loop-from-clause-is
with_segment-digits-requires-in-loop-from-clause-is g c = record {
  some = omega (arith, g.met.T.BitRegister.least_bits);
  within = omega arith;
  inside = omega arith;
  place = omega (arith, c.loop-from.invariant.place);
  begins = λ behind. refl;
  ends = λ before. omega arith;
}

pub loop-from-preserved : goal.loop-from-preserved
loop-from-preserved g c =
    let b = g.T.BitRegister.BITS in
    record {
      digits = c.with_segment-digits-in-loop-from.ensures;
      place = omega (arith, suc-mul c.loop-from.word b, c.loop-from.invariant.place);
      some = omega arith;
      few = omega (arith, g.met.T.BitRegister.least_bits, c.loop-from.invariant.few);
      upto = omega arith;
    }

pub returns-then-from-n : goal.returns-then-from-n
returns-then-from-n g c =
    let reading = read_by g.T.BitRegister g.O.Positions.position in
    let cut = c.args.cut in
    let n = c.args.n in
    let shown = piece (memory reading c.args.words.now) cut.head n in
    let all : c.loop-from.from ≡ length shown =
    omega (arith, length-window reading c.args.words.now cut.head n c.requires.fits) in
    gathered_all (cut_weight cut g.T.BitRegister.BITS n) shown c.loop-from.from c.loop-from.digits all
    c.loop-from.invariant.digits

pub returns : goal.returns
returns g c =
    let reading = read_by g.T.BitRegister g.O.Positions.position in
    let cut = c.args.cut in
    let n = c.args.n in
    let from = c.loop-from.from in
    let shown = piece (memory reading c.args.words.now) cut.head n in
    let all : from + (n - from) ≡ length shown =
    omega (arith, length-window reading c.args.words.now cut.head n c.requires.fits, c.loop-from.invariant.upto) in
    gathered_all (cut_weight cut g.T.BitRegister.BITS n) shown (from + (n - from)) c.with_segment.result all
    c.with_segment.ensures
