use Rattle.std.proofs.Common.{◌≡◌, ℕ, ◌+◌, ◌-◌, ◌*◌, ◌/◌, refl, ap, ◌∙◌, arith}
use Rattle.std.proofs.Math.Nat.{suc-mul}
use Rattle.std.proofs.lemmas.Nat.{div-add-mod'}
use Rattle.bit_addressing_memory.specs.Bits.{digit_at}
use Rattle.bit_addressing_memory.specs.Memory.{read_by}
use Rattle.bit_addressing_memory.proofs.OverwriteLemmas.{overwrites_join}
use Rattle.bit_slice_fields.specs.Digits.{cut_weight}
use Rattle.bit_slice_fields.proofs.digits.scatter_by_words.Goals as goal

pub put_segment-requires-clause-is : goal.put_segment-requires-clause-is
put_segment-requires-clause-is g c =
    let b = g.T.BitRegister.BITS in
    let word = ap (λ x. c.args.place / x * b) c.bits_of-bits.ensures in
    record {
      some = omega arith;
      within = omega arith;
      inside = omega (arith, c.requires.more);
      place = omega (arith, word, div-add-mod' c.args.place b, c.requires.begins);
      begins = λ behind. absurd (omega arith);
      ends = λ before. omega arith;
    }

pub loop-from-init : goal.loop-from-init
loop-from-init g c =
    let b = g.T.BitRegister.BITS in
    let word = ap (λ x. c.args.place / x * b) c.bits_of-bits.ensures in
    let here : c.args.place + 0 ≡ c.args.place = omega arith in
    let index : (k : ℕ) → 0 + k ≡ k = λ k. omega arith in
    let wrote = rw here at c.put_segment.ensures in
    record {
      written = record {
        there = λ k low. wrote.there k low ∙ ap (λ i. digit_at c.args.digits (cut_weight c.args.cut b c.args.n i)) (index k);
        below = wrote.below;
        above = wrote.above;
        words = wrote.words;
      };
      place =
          omega (
            arith,
            word,
            suc-mul (c.args.place / c.bits_of-bits.result) b,
            div-add-mod' c.args.place b,
            c.requires.begins,
          );
      some = omega arith;
      few = omega arith;
      upto = omega (arith, c.requires.more);
    }

pub put_segment-requires-in-loop-from-clause-is : goal.put_segment-requires-in-loop-from-clause-is
put_segment-requires-in-loop-from-clause-is g c = record {
  some = omega (arith, g.met.T.BitRegister.least_bits);
  within = omega arith;
  inside = omega arith;
  place = omega (arith, c.loop-from.invariant.place);
  begins = λ behind. refl;
  ends = λ before. omega arith;
}

pub loop-from-preserved : goal.loop-from-preserved
loop-from-preserved g c =
    let reading = read_by g.T.BitRegister g.O.Positions.position in
    let b = g.T.BitRegister.BITS in
    let from = c.loop-from.from in
    let bits = c.bits_of-bits.result in
    let weighs = cut_weight c.args.cut b c.args.n in
    record {
      written =
          overwrites_join reading c.args.words.now c.loop-from.words c.put_segment-in-loop-from.new.words c.args.place
          from (c.args.place + from) bits (from + bits) (λ k. digit_at c.args.digits (weighs k))
          (λ k. digit_at c.args.digits (weighs (from + k))) refl refl (λ k low. refl) c.loop-from.invariant.written
          c.put_segment-in-loop-from.ensures;
      place = omega (arith, suc-mul c.loop-from.at b, c.loop-from.invariant.place);
      some = omega arith;
      few = omega (arith, g.met.T.BitRegister.least_bits, c.loop-from.invariant.few);
      upto = omega arith;
    }

pub returns-then-from-n : goal.returns-then-from-n
returns-then-from-n g c =
    let b = g.T.BitRegister.BITS in
    let n = c.args.n in
    let from = c.loop-from.from in
    let weighs = cut_weight c.args.cut b n in
    overwrites_join (read_by g.T.BitRegister g.O.Positions.position) c.args.words.now c.loop-from.words
    c.put_segment-then-from-n.new.words c.args.place from (c.args.place + from) (n - from) n
    (λ k. digit_at c.args.digits (weighs k)) (λ k. digit_at c.args.digits (weighs (from + k))) refl
    (omega (arith, c.loop-from.invariant.upto)) (λ k low. refl) c.loop-from.invariant.written
    c.put_segment-then-from-n.ensures
