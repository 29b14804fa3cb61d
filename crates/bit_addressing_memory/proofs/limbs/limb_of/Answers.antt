use Rattle.bit_addressing_memory.proofs.Common.{◌≡◌, ◌+◌, ◌-◌, ◌*◌, ◌/◌, ◌==◌, min, ap, sym, ◌∙◌, arith, indexed}
use Rattle.std.proofs.lemmas.Nat.Bits.{bit_at-zero}
use Rattle.bit_addressing_memory.proofs.LimbLemmas.{blocks_are, wrapped}
use Rattle.bit_addressing_memory.proofs.limbs.limb_of.Goals as goal

pub returns : goal.returns
returns g c =
    let b = g.R.BitRegister.BITS in
    let all : 8 * (c.min.result / 8) ≡ min 64 b =
    rw (c.min.ensures, c.BITS.ensures) (blocks_are b g.met.R.BitRegister.size) in
    record {
      inside = λ i small low.
          let start : i - 0 ≡ i = omega arith in
          sym (wrapped c.spread_blocks.result i small)
          ∙ c.spread_blocks.ensures.inside i (omega arith) (omega (arith, all)) small
          ∙ ap (λ j. indexed g.R.BitRegister.number g.O.Positions.position c.args.word (c.args.from + j)) start;
      past = λ i small high.
          sym (wrapped c.spread_blocks.result i small)
          ∙ c.spread_blocks.ensures.above i (omega (arith, all, c.requires)) small
          ∙ ap (λ d. d == 1) (bit_at-zero i);
    }
