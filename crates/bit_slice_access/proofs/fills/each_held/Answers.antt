use Rattle.std.proofs.Common.{◌+◌, ◌*◌, ◌<◌, ◌≤◌, ◌≡◌, [], ◌∷◌, length, ap, sym, ◌∙◌, rules, of_calls, arith, get_or, false}
use Rattle.bit_addressing_memory.specs.Bits.{with_digit}
use Rattle.bit_addressing_memory.specs.Memory.{entry, indexed, memory, piece, read_by, with_piece}
use Rattle.bit_addressing_memory.proofs.EntryLemmas.{entry_read}
use Rattle.bit_addressing_memory.proofs.MemoryLemmas.{get_or-piece}
use Rattle.bit_addressing_memory.proofs.WindowLemmas.{length-window, window_bit}
use Rattle.bit_slice_access.proofs.FillLemmas.{filled_start, filled_next, filled_as, filled_whole, kept_above}
use Rattle.bit_slice_access.proofs.FillLemmas.{word_written}
use Rattle.bit_slice_access.proofs.fills.each_held.Goals as goal

pub loop-j-init : goal.loop-j-init
loop-j-init g c =
    record {
      callable = search rules;
      filled = filled_start _ _ _ _ _ _ _ (omega arith) (omega arith) c.loop-k.invariant.filled;
    }

pub loop-j-preserved : goal.loop-j-preserved
loop-j-preserved g c =
    let reading = read_by g.R.BitRegister g.O.Positions.position in
    let b = g.R.BitRegister.BITS in
    let n = c.min-count.result in
    let at = 64 * c.loop-k.k in
    let j = c.loop-j.j in
    let now = c.loop-j.now in
    let word = c.index-was-0.result in
    let some : 0 < b = omega (arith, c.requires.wide) in
    let small : j < b = omega (arith, c.requires.wide) in
    let fits : 0 + n ≤ length (now ∷ []) * b = omega (arith, c.requires.wide) in
    let here : 0 + j ≡ 0 * b + j = omega arith in
    let old : get_or (g.V.Bits.bits c.args.view.now) (at + j) false ≡ c.read_bit.result =
    sym (c.loop-k.invariant.rest (at + j) (omega arith))
    ∙ sym (get_or-piece (g.V.Bits.bits c.loop-k.view) at n j false (omega arith))
    ∙ ap (λ xs. get_or xs j false) (sym c.hold.ensures.bits)
    ∙ window_bit reading c.hold.new.held 0 n j some (omega arith)
    ∙ ap (entry reading c.hold.new.held) here
    ∙ sym (entry_read reading c.hold.new.held 0 j word small (omega arith) c.index-was-0.is)
    ∙ ap (indexed g.R.BitRegister.number g.O.Positions.position word) (sym c.new_unchecked-index.ensures)
    ∙ sym c.read_bit.ensures.value in
    record {
      callable = search (rules, of_calls);
      filled =
          filled_next _ _ _ (piece (memory reading (now ∷ [])) 0 n) _ _ j n _ c.f-bit.result _ (omega arith)
          (length-window reading (now ∷ []) 0 n fits) (omega arith)
          (word_written b g.R.BitRegister.number g.O.Positions.position _ _ now c.write_bit-now.result n j c.f-bit.result
          g.met.O.BitOrder.lawful fits small (omega arith)
          (c.write_bit-now.ensures.value
          ∙ ap (λ i. with_digit (g.R.BitRegister.number now) (g.O.Positions.position i) c.f-bit.result) c.new_unchecked-index.ensures))
          c.loop-j.invariant.filled (rw old (search rules));
    }

pub loop-k-preserved : goal.loop-k-preserved
loop-k-preserved g c =
    let reading = read_by g.R.BitRegister g.O.Positions.position in
    let xs = g.V.Bits.bits c.loop-k.view in
    let n = c.min-count.result in
    let part = piece (memory reading (c.loop-j.now ∷ [])) 0 n in
    let fits : 0 + n ≤ length (c.loop-j.now ∷ []) * g.R.BitRegister.BITS = omega (arith, c.requires.wide) in
    let size : length part ≡ n = length-window reading (c.loop-j.now ∷ []) 0 n fits in
    let same : g.V.Bits.bits c.write_part.new.self ≡ with_piece xs (64 * c.loop-k.k) part =
    c.write_part.ensures.bits
    ∙ ap (with_piece xs (64 * c.loop-k.k)) (c.from_place.ensures.bits
    ∙ ap (λ ws. piece (memory reading ws) 0 n) c.from_ref-answers.ensures.value) in
    record {
      room = search rules;
      frame = search rules;
      len = search rules;
      callable = search rules;
      rest = λ i past.
          kept_above xs _ part _ (64 * c.loop-k.k) 64 (omega arith) (omega arith) same c.loop-k.invariant.rest i
          (omega arith);
      filled = filled_as _ _ _ _ _ _ _ same (omega arith) c.loop-j.invariant.filled;
    }

pub returns-clause-bits : goal.returns-clause-bits
returns-clause-bits g c = (c.loop-k.f, filled_whole _ _ _ _ _ c.loop-k.invariant.filled (omega arith))
