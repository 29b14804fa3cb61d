use Rattle.std.proofs.Common.{◌≡◌, ℕ, ◌+◌, ◌*◌, ◌<◌, ◌≤◌, ◌++◌, [], true, false, length, arith, rules, ap, refl, ◌∙◌}
use Rattle.std.proofs.Math.Nat.{mul-le-mul_right}
use Rattle.std.specs.Iterator.{size}
use Rattle.bit_addressing_memory.specs.Memory.{memory, read_by}
use Rattle.bit_addressing_span.specs.declared.span.TheConstants.{MAX_BITS}
use Rattle.bit_containers_vector.specs.Vector.{vec_bits}
use Rattle.bit_containers_vector.proofs.ElementLemmas.{no_words, one_word, one_less}
use Rattle.bit_containers_vector.proofs.ExtendLemmas.{extends_none, extends_more}
use Rattle.bit_containers_vector.proofs.vector.BitVec.extend_elements.Goals as goal

pub loop-word-init : goal.loop-word-init
loop-word-init g c =
    let reading = read_by g.T.BitRegister g.O.Positions.position in
    let same = c.into_iter-word-iterator.ensures.into_iter_gives in
    record {
      can = search (rules, same, c.requires.can);
      finite = search (rules, same, c.requires.finite);
      bits = no_words reading (vec_bits reading c.args.self.now);
      most = search (rules, same, c.requires.most);
      few = omega (arith, ap (λ i. size (g.I.Iterator.remaining i) * g.T.BitRegister.BITS) same);
      head = refl;
      words = ([], extends_none reading c.args.self.now);
      room = omega arith;
    }

pub loop-word-preserved : goal.loop-word-preserved
loop-word-preserved g c =
    let reading = read_by g.T.BitRegister g.O.Positions.position in
    let was = c.loop-word.invariant in
    let grown = (c.in_ok-extend_from_raw_slice.ensures).ok in
    let left : size (g.I.Iterator.remaining c.next.new.self) + 1
    ≤ size (g.I.Iterator.remaining c.loop-word.word-iterator) = search (rules, arith) in
    let still_few : (m : ℕ) → length (vec_bits reading c.loop-word.self)
    + size (g.I.Iterator.remaining c.loop-word.word-iterator) * g.T.BitRegister.BITS ≤ m
    → length (vec_bits reading c.extend_from_raw_slice.new.self)
    + size (g.I.Iterator.remaining c.next.new.self) * g.T.BitRegister.BITS ≤ m =
    λ m few. one_less reading (vec_bits reading c.loop-word.self) (vec_bits reading c.extend_from_raw_slice.new.self)
    c.from_ref.result.now c.in-Some.word (size (g.I.Iterator.remaining c.loop-word.word-iterator))
    (size (g.I.Iterator.remaining c.next.new.self)) m grown.bits c.from_ref.ensures.value left few in
    record {
      can = search rules;
      finite = search rules;
      bits =
          one_word reading (vec_bits reading c.args.self.now) (vec_bits reading c.loop-word.self)
          (vec_bits reading c.extend_from_raw_slice.new.self) c.loop-word.yielded c.from_ref.result.now c.in-Some.word
          was.bits grown.bits c.from_ref.ensures.value;
      most = still_few MAX_BITS was.most;
      few = still_few _ was.few;
      head = grown.head ∙ was.head;
      words =
          let some : 0 < g.T.BitRegister.BITS = omega (arith, g.met.T.BitRegister.least_bits) in (
            was.words.0 ++ memory reading c.from_ref.result.now,
            extends_more reading c.args.self.now c.loop-word.self c.extend_from_raw_slice.new.self was.words.0 _ some
                c.args.self.now.fits c.loop-word.self.fits c.extend_from_raw_slice.new.self.fits was.words.1 grown,
          );
      room = omega (arith, was.room, c.extend_from_raw_slice.ensures.room);
    }

-- there was room for the bits of a word that is left
pub returns-in_err-extend_from_raw_slice-clause-succeeds : goal.returns-in_err-extend_from_raw_slice-clause-succeeds
returns-in_err-extend_from_raw_slice-clause-succeeds g c = λ enough.
    let b = g.T.BitRegister.BITS in
    let was = c.loop-word.invariant in
    let less : size (g.I.Iterator.remaining c.next.new.self) + 1
    ≤ size (g.I.Iterator.remaining c.loop-word.word-iterator) =
    search (rules, arith) in
    let product : 1 * b ≤ size (g.I.Iterator.remaining c.loop-word.word-iterator) * b =
    mul-le-mul_right b (omega (arith, less)) in
    let one : length c.from_ref.result.now * b ≡ 1 * b = ap (λ ws. length ws * b) c.from_ref.ensures.value in
    let never : false ≡ true =
    (c.in_err-extend_from_raw_slice.ensures).succeeds (omega (arith, was.few, was.room, enough, product, one)) in
    cc
