use Rattle.std.proofs.Common.{◌+◌, ◌*◌, ◌≤◌, [], ◌∷◌, length, ap, ◌∙◌, rules, of_calls, arith}
use Rattle.bit_addressing_memory.specs.Bits.{with_digit}
use Rattle.bit_addressing_memory.specs.Memory.{memory, piece, read_by, with_piece}
use Rattle.bit_addressing_memory.proofs.WindowLemmas.{length-window}
use Rattle.bit_slice_access.proofs.FillLemmas.{filled_start, filled_next, filled_as, filled_whole, word_written}
use Rattle.bit_slice_access.proofs.fills.fill_held.Goals as goal

pub loop-j-init : goal.loop-j-init
loop-j-init g c =
    record {
      callable = search rules;
      filled = filled_start _ _ _ _ _ _ _ (omega arith) (omega arith) c.loop-k.invariant.filled;
    }

pub loop-j-preserved : goal.loop-j-preserved
loop-j-preserved g c =
    let reading = read_by g.R.BitRegister g.O.Positions.position in
    let n = c.min-count.result in
    let j = c.loop-j.j in
    let now = c.loop-j.now in
    let fits : 0 + n ≤ length (now ∷ []) * g.R.BitRegister.BITS = omega (arith, c.requires.wide) in
    record {
      callable = search (rules, of_calls);
      filled =
          filled_next _ _ _ (piece (memory reading (now ∷ [])) 0 n) _ _ j n _ c.f-bit.result _ (omega arith)
          (length-window reading (now ∷ []) 0 n fits) (omega arith)
          (word_written g.R.BitRegister.BITS g.R.BitRegister.number g.O.Positions.position _ _ now c.write_bit-now.result
          n j c.f-bit.result g.met.O.BitOrder.lawful fits (omega (arith, c.requires.wide)) (omega arith)
          (c.write_bit-now.ensures.value
          ∙ ap (λ i. with_digit (g.R.BitRegister.number now) (g.O.Positions.position i) c.f-bit.result) c.new_unchecked.ensures))
          c.loop-j.invariant.filled (search rules);
    }

pub loop-k-preserved : goal.loop-k-preserved
loop-k-preserved g c =
    let reading = read_by g.R.BitRegister g.O.Positions.position in
    let shown = c.from_place.ensures.bits ∙ ap (λ ws. piece (memory reading ws) 0 c.min-count.result) c.from_ref-answers.ensures.value
    in
    record {
      frame = search rules;
      len = search rules;
      callable = search rules;
      filled =
          filled_as _ _ _ _ _ _ _ (c.write_part.ensures.bits ∙ ap (with_piece _ _) shown)
          (omega arith) c.loop-j.invariant.filled;
    }

pub returns-clause-bits : goal.returns-clause-bits
returns-clause-bits g c = (c.loop-k.f, filled_whole _ _ _ _ _ c.loop-k.invariant.filled (omega arith))
