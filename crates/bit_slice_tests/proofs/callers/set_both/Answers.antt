use Rattle.std.proofs.Common.{◌≡◌, ◌+◌, ◌-◌, ◌≤◌, ◌<◌, ℕ, Bool, true, List, ◌++◌, set, length, take, drop}
use Rattle.std.proofs.Common.{length-set, arith, sym, ap, ◌∙◌, rules}
use Rattle.std.proofs.lemmas.List.{set-append_left, set-append_right, take-append-drop, length-take-le}
use Rattle.bit_addressing_memory.specs.Memory.{read_by}
use Rattle.bit_slice_views_mut.specs.Parts.{IsPart, Windows}
use Rattle.bit_slice_views_mut.proofs.PairLemmas.{both_written, left_bits, right_bits}
use Rattle.bit_slice_tests.proofs.callers.set_both.Goals as goal

set_in_turn : (xs : List Bool) (mid i j : ℕ) → mid ≤ length xs → i < mid
    → set (take mid xs) i true ++ set (drop mid xs) j true ≡ set (set xs i true) (mid + j) true
set_in_turn xs mid i j inside low =
    let size : length (take mid xs) ≡ mid = length-take-le mid xs inside in
    let back : mid + j - mid ≡ j = omega arith in
    let early : i < length (take mid xs) = omega arith in
    let count : length (set (take mid xs) i true) ≡ mid = length-set (take mid xs) i true ∙ size in
    sym (
    ap (λ ys. set (set ys i true) (mid + j) true) (sym (take-append-drop mid xs))
    ∙ ap (λ ys. set ys (mid + j) true) (set-append_left (take mid xs) (drop mid xs) i true early)
    ∙ set-append_right (set (take mid xs) i true) (drop mid xs) mid (mid + j) true count (omega arith)
    ∙ ap (λ k. set (take mid xs) i true ++ set (drop mid xs) k true) back)

pub returns : goal.returns
returns g c =
    let of : Windows _ _ _ = record {
      reading = read_by g.V.Store.BitRegister g.V.Order.Positions.position;
      some = omega (arith, g.met.V.Store.BitRegister.least_bits);
      bits = g.V.Bits.bits;
      lender = g.V.BitsMut.lender;
      words = g.V.BitsMut.words;
      place = g.V.BitsMut.place;
      frame = g.V.BitsMut.frame;
      window = g.met.V.BitsMut.window;
      fits = g.met.V.BitsMut.fits;
      framed = g.met.V.BitsMut.framed;
    } in
    let v = c.args.view.now in
    let mid = c.args.mid in
    let left : IsPart of v (of.place v) mid c.left_mut.result.now =
    record { words = cc; lender = cc; place = cc; len = cc } in
    let right : IsPart of c.set.new.self (of.place v + mid) (length (of.bits v) - mid) c.right_mut.result.now =
    record { words = cc; lender = cc; place = cc; len = cc } in
    let size : length (of.bits c.drop-pair.new.self.0) ≡ length (of.bits v) = omega arith in
    let place : of.place c.drop-pair.new.self.0 ≡ of.place v = cc in
    let both = both_written of v c.left_mut.result.now c.set.new.self c.right_mut.result.now c.set-2.new.self
    c.drop-pair.new.self.0 mid c.requires.within left c.set.ensures.frame (omega arith) right c.set-2.ensures.frame
    (omega arith) c.drop-pair.ensures.words c.drop-pair.ensures.lender place size in
    let was_left : of.bits c.left_mut.result.now ≡ take mid (of.bits v) = left_bits of v _ mid left c.requires.within in
    let was_right : of.bits c.right_mut.result.now ≡ drop mid (of.bits v) =
    right_bits of v _ c.set.new.self _ mid c.requires.within left c.set.ensures.frame (omega arith) right in
    let bits : of.bits c.drop-pair.new.self.0 ≡ set (set (of.bits v) c.args.left true) (mid + c.args.right) true =
    both.0
    ∙ ap (λ xs. xs ++ of.bits c.set-2.new.self) (c.set.ensures.bits ∙ ap (λ xs. set xs c.args.left true) was_left)
    ∙ ap (λ xs. set (take mid (of.bits v)) c.args.left true ++ xs)
    (c.set-2.ensures.bits ∙ ap (λ xs. set xs c.args.right true) was_right)
    ∙ set_in_turn (of.bits v) mid c.args.left c.args.right c.requires.within c.requires.left in
    let frame = both.1 in
    record { bits = search (rules, bits); len = search (rules, size); frame = search (rules, frame) }
