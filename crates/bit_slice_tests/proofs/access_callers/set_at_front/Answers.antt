use Rattle.std.proofs.Common.{◌≡◌, ◌+◌, ◌-◌, ◌≤◌, ◌<◌, Bool, true, List, [], ◌∷◌, ◌++◌, set, length, take, drop, refl}
use Rattle.std.proofs.Common.{arith, ap, ◌∙◌, rules}
use Rattle.bit_addressing_memory.specs.Memory.{read_by}
use Rattle.bit_slice_views_mut.specs.Parts.{IsPart, Windows}
use Rattle.bit_slice_views_mut.proofs.PairLemmas.{both_written, left_bits, right_bits}
use Rattle.bit_slice_tests.proofs.access_callers.set_at_front.Goals as goal

set_two : (xs : List Bool) → 1 < length xs
    → set (take 1 xs) 0 true ++ set (drop 1 xs) 0 true ≡ set (set xs 0 true) 1 true
set_two [] more = absurd (omega arith)
set_two (x ∷ []) more = absurd (omega arith)
set_two (x ∷ y ∷ xs) more = refl

pub returns : goal.returns
returns g c =
    let of : Windows _ _ _ = record {
      reading = read_by g.V.Store.BitRegister g.V.Order.Positions.position;
      some = omega (arith, g.met.V.Store.BitRegister.least_bits);
      bits = g.V.Bits.bits;
      lender = g.V.BitsMut.lender;
      words = g.V.BitsMut.words;
      place = g.V.BitsMut.place;
      frame = g.V.BitsMut.frame;
      window = g.met.V.BitsMut.window;
      fits = g.met.V.BitsMut.fits;
      framed = g.met.V.BitsMut.framed;
    } in
    let v = c.args.view.now in
    let split = c.in-Some.ensures.splits in
    let inside : 1 ≤ length (of.bits v) = omega arith in
    let left : IsPart of v (of.place v) 1 c.left_mut.result.now =
    record { words = cc; lender = cc; place = cc; len = cc } in
    let right : IsPart of c.set.new.self (of.place v + 1) (length (of.bits v) - 1) c.right_mut.result.now =
    record { words = cc; lender = cc; place = cc; len = cc } in
    let size : length (of.bits c.drop-pair.new.self.0) ≡ length (of.bits v) = cc in
    let place : of.place c.drop-pair.new.self.0 ≡ of.place v = cc in
    let both = both_written of v c.left_mut.result.now c.set.new.self c.right_mut.result.now c.set-2.new.self
    c.drop-pair.new.self.0 1 inside left c.set.ensures.frame (omega (arith, c.left_mut.ensures.len, split.mid))
    right c.set-2.ensures.frame (omega (arith, right.len)) c.drop-pair.ensures.words c.drop-pair.ensures.lender
    place size in
    let was_left : of.bits c.left_mut.result.now ≡ take 1 (of.bits v) = left_bits of v _ 1 left inside in
    let was_right : of.bits c.right_mut.result.now ≡ drop 1 (of.bits v) =
    right_bits of v _ c.set.new.self _ 1 inside left c.set.ensures.frame
    (omega (arith, c.left_mut.ensures.len, split.mid)) right in
    let bits : of.bits c.drop-pair.new.self.0 ≡ set (set (of.bits v) 0 true) 1 true =
    both.0
    ∙ ap (λ xs. xs ++ of.bits c.set-2.new.self) (c.set.ensures.bits ∙ ap (λ xs. set xs 0 true) was_left)
    ∙ ap (λ xs. set (take 1 (of.bits v)) 0 true ++ xs)
    (c.set-2.ensures.bits ∙ ap (λ xs. set xs 0 true) was_right)
    ∙ set_two (of.bits v) (omega arith) in
    let frame = both.1 in
    record { bits = search (rules, bits); frame = search (rules, frame) }
