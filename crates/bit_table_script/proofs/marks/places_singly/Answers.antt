use Rattle.std.proofs.Common.{◌<◌, ◌++◌, [], ◌∷◌, false, Vec, Global, ℕ, length, ap, sym, ◌∙◌, arith}
use Rattle.bit_addressing_memory.specs.Memory.{read_by}
use Rattle.bit_slice_views.specs.View.{view_bits}
use Rattle.bit_table_script.proofs.MarkedLemmas.{none_found, one_found}
use Rattle.bit_table_script.proofs.marks.places_singly.Goals as goal
use Rattle.bit_table_script.proofs.marks.places_singly.Goals.{then-bit+in_ok-push, else-bit}

pub loop-place-preserved : goal.loop-place-preserved
loop-place-preserved g c =
    let bits = view_bits (read_by g.T.BitRegister g.O.Positions.position) c.args.bits in
    let i = c.loop-place.place in
    let low : i < length bits = omega (arith, c.loop-place-test.true, c.parts-len.ensures.len) in
    elim c.if-bit.branch [
      | then-bit+in_ok-push w ↦
          ap (λ (places : Vec ℕ Global). places.items) w.places-is
          ∙ (w.in_ok-push.ensures).items
          ∙ ap (λ ks. ks ++ (i ∷ [])) c.loop-place.invariant
          ∙ sym (one_found i bits false low (sym c.bit.ensures ∙ w.if-bit.true))
      | else-bit w ↦
          ap (λ (places : Vec ℕ Global). places.items) w.places-is
          ∙ c.loop-place.invariant
          ∙ sym (none_found i bits false low (sym c.bit.ensures ∙ w.if-bit.false))
    ]
