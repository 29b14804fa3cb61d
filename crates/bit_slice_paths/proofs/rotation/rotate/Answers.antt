use Rattle.bit_addressing_memory.proofs.Common.{◌≡◌, ◌+◌, ◌-◌, ◌∙◌, refl, arith, read_by}
use Rattle.bit_slice_paths.proofs.RotationLemmas.{exchanged_front, exchanged_back}
use Rattle.bit_slice_paths.proofs.rotation.rotate.Goals as goal

pub loop-right-preserved-then-left-right : goal.loop-right-preserved-then-left-right
loop-right-preserved-then-left-right g c =
    let reading = read_by g.R.BitRegister g.O.Positions.position in
    let left = c.loop-right.left in
    let right = c.loop-right.right in
    record {
      rest = λ after turned.
          c.loop-right.invariant.rest after
          (exchanged_front reading c.loop-right.words c.exchange.new.words after c.loop-right.first left right _ _ _
          c.if-left-right.true (omega arith) (omega arith) refl c.exchange.ensures turned);
      inside = omega (arith, c.loop-right.invariant.inside);
      words = c.exchange.ensures.words ∙ c.loop-right.invariant.words;
    }

pub loop-right-preserved : goal.loop-right-preserved
loop-right-preserved g c =
    let reading = read_by g.R.BitRegister g.O.Positions.position in
    let left = c.loop-right.left in
    let right = c.loop-right.right in
    let swapped = c.exchange-else-left-right in
    record {
      rest = λ after turned.
          c.loop-right.invariant.rest after
          (exchanged_back reading c.loop-right.words swapped.new.words after c.loop-right.first left right _ _ _ _ _
          (omega (arith, c.if-left-right.false)) refl refl (omega (arith, c.if-left-right.false)) refl refl
          swapped.ensures turned);
      inside = omega (arith, c.loop-right.invariant.inside);
      words = swapped.ensures.words ∙ c.loop-right.invariant.words;
    }

pub returns-else-left-right-2 : goal.returns-else-left-right-2
returns-else-left-right-2 g c =
    let left = c.loop-right.left in
    let right = c.loop-right.right in
    let by : left + right - right ≡ left = omega arith in
    c.loop-right.invariant.rest c.move_towards-else-left-right-2.new.words (rw by at c.move_towards-else-left-right-2.ensures)
