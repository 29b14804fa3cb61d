use Rattle.std.proofs.Common.{◌≡◌, ◌+◌, ◌<◌, ◌++◌, [], ◌∷◌, false, Vec, Global, ℕ, length, take, ap, sym}
use Rattle.std.proofs.Common.{◌∙◌, arith}
use Rattle.bit_slice_chunks.specs.Chunk.{chunk_bit}
use Rattle.bit_table_script.specs.Told.{ones_from}
use Rattle.bit_table_script.proofs.MarkedLemmas.{none_among, none_found, none_in_zero, one_found}
use Rattle.bit_table_script.proofs.marks.add_chunk.Goals as goal
use Rattle.bit_table_script.proofs.marks.add_chunk.Goals.{then-chunk_has+in_ok-push, else-chunk_has}

pub returns-then-chunk-eq0 : goal.returns-then-chunk-eq0
returns-then-chunk-eq0 c bits at had =
    had ∙ sym (none_among c.args.first c.args.count bits at.within
    (λ k low. at.is k low ∙ ap (λ n. chunk_bit c.args.direction n k) c.if-chunk-eq0.true
    ∙ none_in_zero c.args.direction k))

pub loop-index-init : goal.loop-index-init
loop-index-init c bits at had =
    let here : c.args.first ≡ c.args.first + 0 = omega arith in
    had ∙ ap (λ n. ones_from 0 (take n bits)) here

pub loop-index-preserved : goal.loop-index-preserved
loop-index-preserved c bits at had =
    let i = c.loop-index.index in
    let k : ℕ = c.args.first + i in
    let low : i < c.args.count = c.loop-index-test.true in
    let inside : k < length bits = omega (arith, at.within) in
    let next : k + 1 ≡ c.args.first + (i + 1) = omega arith in
    let more = ap (λ n. ones_from 0 (take n bits)) next in
    elim c.if-chunk_has.branch [
      | then-chunk_has+in_ok-push w ↦
          ap (λ (places : Vec ℕ Global). places.items) w.places-is
          ∙ (w.in_ok-push.ensures).items
          ∙ ap (λ ks. ks ++ (k ∷ [])) (c.loop-index.invariant bits at had)
          ∙ sym (one_found k bits false inside (at.is i low ∙ sym c.chunk_has.ensures ∙ w.if-chunk_has.true))
          ∙ more
      | else-chunk_has w ↦
          ap (λ (places : Vec ℕ Global). places.items) w.places-is
          ∙ c.loop-index.invariant bits at had
          ∙ sym (none_found k bits false inside (at.is i low ∙ sym c.chunk_has.ensures ∙ w.if-chunk_has.false))
          ∙ more
    ]
