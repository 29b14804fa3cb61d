use Rattle.bit_addressing_memory.proofs.Common.{◌≡◌, ◌+◌, Bool, true, false, not, refl, entry, read_by}
use mathlib.Core.Bool.{xor}
use Rattle.bit_addressing_memory.proofs.PartsLemmas.{stores_as}
use Rattle.bit_slice_words.proofs.invert.not_in.Goals as goal

xor_true : (b : Bool) → xor b true ≡ not b
unfolding xor
xor_true true = refl
xor_true false = refl

pub returns : goal.returns
returns g c =
    let reading = read_by g.R.BitRegister g.O.Positions.position in
    let before = c.args.words.now in
    record {
      flipped = stores_as reading before c.change_in.new.words c.args.place c.args.len
          (λ k. xor (entry reading before (c.args.place + k)) true) (λ k. not (entry reading before (c.args.place + k)))
          c.change_in.ensures.changed (λ k small. xor_true (entry reading before (c.args.place + k)));
    }
