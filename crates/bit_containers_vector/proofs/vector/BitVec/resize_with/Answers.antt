use Rattle.std.proofs.Common.{◌≡◌, ℕ, ◌+◌, ◌<◌, ◌++◌, [], length, sym, ap, ◌∙◌, arith, refl}
use Rattle.std.proofs.Common.{append_assoc, length-append, of_calls, rules, ◌∷◌}
use Rattle.std.proofs.iter.Next.{called}
use Rattle.std.proofs.lemmas.List.{append-nil}
use Rattle.bit_addressing_memory.specs.Memory.{read_by}
use Rattle.bit_containers_vector.specs.Vector.{vec_bits}
use Rattle.bit_containers_vector.proofs.AnswerLemmas.{answers_more}
use Rattle.bit_containers_vector.proofs.ExtendLemmas.{extends_same, extends_more}
use Rattle.bit_containers_vector.proofs.vector.BitVec.resize_with.Goals as goal

pub returns-then-len-old-clause-bits : goal.returns-then-len-old-clause-bits
returns-then-len-old-clause-bits g c =
    let from : ℕ = length (vec_bits (read_by g.T.BitRegister g.O.Positions.position) c.args.self.now) in
    let same : from ≡ from + 0 = omega arith in (
      [],
      c.args.f,
      c.truncate.ensures.bits ∙ sym (append-nil _),
      record {
        count = omega (arith, c.if-len-old.true, c.len-old.ensures);
        calls = ap (λ n. (c.args.f, n)) same;
      },
    )

pub returns-then-len-old-clause-longer : goal.returns-then-len-old-clause-longer
returns-then-len-old-clause-longer g c = λ more. absurd (omega (arith, more, c.if-len-old.true, c.len-old.ensures))

pub returns-clause-shorter : goal.returns-clause-shorter
returns-clause-shorter g c = λ less. absurd (omega (arith, less, c.if-len-old.false, c.len-old.ensures))

pub loop-i-init : goal.loop-i-init
loop-i-init g c =
    let reading = read_by g.T.BitRegister g.O.Positions.position in
    let same = c.reserve.ensures.same in
    let old : ℕ = c.len-old.result in
    let here : old ≡ old + 0 = omega arith in
    record {
      callable = search rules;
      len = ap length same.bits ∙ sym c.len-old.ensures;
      bits = (
        [],
        same.bits ∙ sym (append-nil _),
        record { count = omega arith; calls = ap (λ n. (c.args.f, n)) here },
      );
      words = ([], extends_same reading c.args.self.now c.reserve.new.self same);
      most = c.requires.most;
      space = (c.in_ok-reserve.ensures).ok;
      head = same.head;
      grown = same.room;
    }

pub loop-i-preserved : goal.loop-i-preserved
loop-i-preserved g c =
    let was = c.loop-i.invariant in
    let put = c.push_within.ensures in
    let reading = read_by g.T.BitRegister g.O.Positions.position in
    let some : 0 < g.T.BitRegister.BITS = omega (arith, g.met.T.BitRegister.least_bits) in
    let ys = was.bits.0 in
    let y = c.f.result in
    let size = length-append (vec_bits (read_by g.T.BitRegister g.O.Positions.position) c.loop-i.self) (y ∷ []) in
    let count = ap length put.grown.bits in
    record {
      callable = search of_calls;
      len = omega (arith, count, size, was.len);
      bits = (
        ys ++ y ∷ [],
        put.grown.bits ∙ ap (λ xs. xs ++ y ∷ []) was.bits.1 ∙ append_assoc _ ys (y ∷ []),
        answers_more _ c.args.f c.loop-i.f c.f.new.self _ c.loop-i.i ys y (omega (arith, c.loop-i.auto.i)) was.bits.2
            (called g.F.FnMut c.f.ensures refl),
      );
      words = (
        was.words.0 ++ y ∷ [],
        extends_more reading c.args.self.now c.loop-i.self c.push_within.new.self was.words.0 (y ∷ []) some
            c.args.self.now.fits c.loop-i.self.fits c.push_within.new.self.fits was.words.1 put.grown,
      );
      most = was.most;
      space = omega (arith, count, size, was.space, put.room, c.loop-i-test.true);
      head = put.grown.head ∙ was.head;
      grown = omega (arith, was.grown, put.room);
    }
