use Rattle.std.proofs.Common.{◌≡◌, ℕ, ◌+◌, ◌≤◌, ◌∷◌, [], ◌++◌, Bool, true, false, List, length, length-append, arith}
use Rattle.std.proofs.Common.{ap, ◌∙◌, rules}
use Rattle.std.specs.Iterator.{Drains, Yields, size}
use Rattle.bit_addressing_memory.specs.Memory.{read_by}
use Rattle.bit_addressing_span.specs.declared.span.TheConstants.{MAX_BITS}
use Rattle.bit_containers_vector.specs.Vector.{vec_bits}
use Rattle.bit_containers_vector.proofs.GatherLemmas.{Gathering, gathering_none, gathering_more, gathering_added, gathering_anew}
use Rattle.bit_containers_vector.proofs.GatherLemmas.{gathering_kept, gathering_refused}
use Rattle.bit_containers_vector.proofs.vector.BitVec.extend.Goals as goal

pub loop-item-init : goal.loop-item-init
loop-item-init g c =
    let reading = read_by g.T.BitRegister g.O.Positions.position in
    let same = c.into_iter-item-iterator.ensures.into_iter_gives in
    record {
      can = search (rules, same, c.requires.can);
      finite = search (rules, same, c.requires.finite);
      gathering = gathering_none reading c.args.self.now 0;
      short = omega arith;
      most = search (rules, same, c.requires.most);
      few = omega (arith, ap (λ i. size (g.I.Iterator.remaining i)) same);
      room = omega arith;
    }

pub new_unchecked-index-requires : goal.new_unchecked-index-requires
new_unchecked-index-requires g c = c.loop-item.invariant.short

pub extend_from_digits-requires-clause-most : goal.extend_from_digits-requires-clause-most
extend_from_digits-requires-clause-most g c =
    let left : size (g.I.Iterator.remaining c.next.new.self) + 1
    ≤ size (g.I.Iterator.remaining c.loop-item.item-iterator) = search (rules, arith) in
    omega (arith, c.loop-item.invariant.most, c.if-count-eq64.true, left)

pub returns-in_err-extend_from_digits-clause-err : goal.returns-in_err-extend_from_digits-clause-err
returns-in_err-extend_from_digits-clause-err g c =
    let run : Yields g.I.Iterator.next_gives c.args.items c.loop-item.yielded c.loop-item.item-iterator =
    search (rules, c.into_iter-item-iterator.ensures.into_iter_gives) in
    let found = gathering_refused (read_by g.T.BitRegister g.O.Positions.position) g.I.Iterator.next_gives c.args.items
    c.loop-item.item-iterator c.args.self.now c.loop-item.self c.extend_from_digits.new.self _ _ c.loop-item.yielded run
    c.loop-item.invariant.gathering (c.in_err-extend_from_digits.ensures).err in
    search (rules, found)

pub returns-in_err-extend_from_digits-clause-succeeds : goal.returns-in_err-extend_from_digits-clause-succeeds
returns-in_err-extend_from_digits-clause-succeeds g c = λ enough.
    let was = c.loop-item.invariant in
    let left : size (g.I.Iterator.remaining c.next.new.self) + 1
    ≤ size (g.I.Iterator.remaining c.loop-item.item-iterator) = search (rules, arith) in
    let never : false ≡ true =
    (c.in_err-extend_from_digits.ensures).succeeds
    (omega (arith, was.few, was.room, enough, left, c.if-count-eq64.true)) in
    cc

pub returns-in_err-extend_from_digits-clause-words : goal.returns-in_err-extend_from_digits-clause-words
returns-in_err-extend_from_digits-clause-words g c =
    gathering_kept (read_by g.T.BitRegister g.O.Positions.position) c.args.self.now c.loop-item.self
    c.extend_from_digits.new.self _ _ _ (omega (arith, g.met.T.BitRegister.least_bits)) c.args.self.now.fits
    c.loop-item.self.fits c.extend_from_digits.new.self.fits c.loop-item.invariant.gathering
    (c.in_err-extend_from_digits.ensures).err

pub loop-item-preserved-then-count-eq64 : goal.loop-item-preserved-then-count-eq64
loop-item-preserved-then-count-eq64 g c =
    let reading = read_by g.T.BitRegister g.O.Positions.position in
    let was = c.loop-item.invariant in
    let old = c.args.self.now in
    let mid = c.loop-item.self in
    let new = c.extend_from_digits.new.self in
    let gathered = c.write_bit-gathered.result in
    let items : List Bool = c.loop-item.yielded ++ c.in-Some.item ∷ [] in
    let more : Gathering reading old mid gathered (c.loop-item.count + 1) items =
    gathering_more reading old mid c.loop-item.gathered gathered c.loop-item.count c.loop-item.yielded c.in-Some.item
    (rw c.new_unchecked-index.ensures at c.write_bit-gathered.ensures.value) was.gathering in
    let whole = rw c.if-count-eq64.true at more in
    let all = gathering_added reading old mid new gathered 64 items
    (omega (arith, g.met.T.BitRegister.least_bits)) old.fits mid.fits new.fits whole
    (c.in_ok-extend_from_digits.ensures).ok in
    let left : size (g.I.Iterator.remaining c.next.new.self) + 1
    ≤ size (g.I.Iterator.remaining c.loop-item.item-iterator) = search (rules, arith) in
    let longer : length (vec_bits reading new) ≡ length (vec_bits reading mid) + 64 =
    ap length ((c.in_ok-extend_from_digits.ensures).ok _ whole.has).bits
    ∙ length-append (vec_bits reading mid) whole.left
    ∙ ap (λ n. length (vec_bits reading mid) + n) whole.has.size in
    let still : (m : ℕ) → length (vec_bits reading mid) + c.loop-item.count
    + size (g.I.Iterator.remaining c.loop-item.item-iterator) ≤ m
    → length (vec_bits reading new) + 0 + size (g.I.Iterator.remaining c.next.new.self) ≤ m =
    λ m few. omega (arith, longer, left, few, c.if-count-eq64.true) in
    record {
      can = search rules;
      finite = search rules;
      gathering = gathering_anew reading old new gathered items all;
      short = omega arith;
      most = still MAX_BITS was.most;
      few = still _ was.few;
      room = omega (arith, was.room, c.extend_from_digits.ensures.room);
    }

pub loop-item-preserved : goal.loop-item-preserved
loop-item-preserved g c =
    let was = c.loop-item.invariant in
    let left : size (g.I.Iterator.remaining c.next.new.self) + 1
    ≤ size (g.I.Iterator.remaining c.loop-item.item-iterator) = search (rules, arith) in
    record {
      can = search rules;
      finite = search rules;
      gathering =
          gathering_more (read_by g.T.BitRegister g.O.Positions.position) c.args.self.now c.loop-item.self
          c.loop-item.gathered c.write_bit-gathered.result c.loop-item.count c.loop-item.yielded c.in-Some.item
          (rw c.new_unchecked-index.ensures at c.write_bit-gathered.ensures.value) was.gathering;
      short = omega (arith, was.short, c.if-count-eq64.false);
      most = omega (arith, was.most, left);
      few = omega (arith, was.few, left);
      room = was.room;
    }

pub extend_from_digits-requires-2-clause-few : goal.extend_from_digits-requires-2-clause-few
extend_from_digits-requires-2-clause-few g c = omega (arith, c.loop-item.invariant.short)

pub extend_from_digits-requires-2-clause-most : goal.extend_from_digits-requires-2-clause-most
extend_from_digits-requires-2-clause-most g c = omega (arith, c.loop-item.invariant.most)

pub returns-in_err-extend_from_digits-2-clause-err : goal.returns-in_err-extend_from_digits-2-clause-err
returns-in_err-extend_from_digits-2-clause-err g c =
    let run : Yields g.I.Iterator.next_gives c.args.items c.loop-item.yielded c.loop-item.item-iterator =
    search (rules, c.into_iter-item-iterator.ensures.into_iter_gives) in
    let found = gathering_refused (read_by g.T.BitRegister g.O.Positions.position) g.I.Iterator.next_gives c.args.items
    c.loop-item.item-iterator c.args.self.now c.loop-item.self c.extend_from_digits-2.new.self _ _ c.loop-item.yielded
    run c.loop-item.invariant.gathering (c.in_err-extend_from_digits-2.ensures).err in
    search (rules, found)

pub returns-in_err-extend_from_digits-2-clause-succeeds : goal.returns-in_err-extend_from_digits-2-clause-succeeds
returns-in_err-extend_from_digits-2-clause-succeeds g c = λ enough.
    let was = c.loop-item.invariant in
    let never : false ≡ true =
    (c.in_err-extend_from_digits-2.ensures).succeeds (omega (arith, was.few, was.room, enough)) in
    cc

pub returns-in_err-extend_from_digits-2-clause-words : goal.returns-in_err-extend_from_digits-2-clause-words
returns-in_err-extend_from_digits-2-clause-words g c =
    gathering_kept (read_by g.T.BitRegister g.O.Positions.position) c.args.self.now c.loop-item.self
    c.extend_from_digits-2.new.self _ _ _ (omega (arith, g.met.T.BitRegister.least_bits)) c.args.self.now.fits
    c.loop-item.self.fits c.extend_from_digits-2.new.self.fits c.loop-item.invariant.gathering
    (c.in_err-extend_from_digits-2.ensures).err

pub returns-clause-ok : goal.returns-clause-ok
returns-clause-ok g c =
    let done : Drains g.I.Iterator.next_gives c.args.items c.loop-item.yielded =
    search (rules, c.into_iter-item-iterator.ensures.into_iter_gives) in
    let all = gathering_added (read_by g.T.BitRegister g.O.Positions.position) c.args.self.now c.loop-item.self
    c.extend_from_digits-2.new.self _ _ c.loop-item.yielded (omega (arith, g.met.T.BitRegister.least_bits))
    c.args.self.now.fits c.loop-item.self.fits c.extend_from_digits-2.new.self.fits c.loop-item.invariant.gathering
    (c.in_ok-extend_from_digits-2.ensures).ok in
    (c.loop-item.yielded, done, all.bits)

pub returns-clause-words : goal.returns-clause-words
returns-clause-words g c = (
  c.loop-item.yielded,
  gathering_added (read_by g.T.BitRegister g.O.Positions.position) c.args.self.now c.loop-item.self
      c.extend_from_digits-2.new.self _ _ c.loop-item.yielded (omega (arith, g.met.T.BitRegister.least_bits))
      c.args.self.now.fits c.loop-item.self.fits c.extend_from_digits-2.new.self.fits c.loop-item.invariant.gathering
      (c.in_ok-extend_from_digits-2.ensures).ok,
)
