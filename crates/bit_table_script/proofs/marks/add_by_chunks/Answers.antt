use Rattle.std.proofs.Common.{◌≡◌, ◌+◌, ◌*◌, ◌<◌, ◌≤◌, false, ℕ, length, get_or, take, ap, sym, ◌∙◌, arith}
use Rattle.std.proofs.lemmas.List.{take_all}
use Rattle.bit_addressing_memory.proofs.WindowLemmas.{window_bit}
use Rattle.bit_addressing_memory.specs.Memory.{entry, read_by}
use Rattle.bit_slice_chunks.specs.Chunk.{chunk_bit}
use Rattle.bit_slice_views.specs.View.{view_bits}
use Rattle.bit_table_script.specs.Told.{ones_from, HasChunk}
use Rattle.bit_table_script.proofs.MarkedLemmas.{take_chunk}
use Rattle.bit_table_script.proofs.marks.add_by_chunks.Goals as goal

pub loop-k-preserved : goal.loop-k-preserved
loop-k-preserved g c =
    let reading = read_by g.T.BitRegister g.O.Positions.position in
    let bits = view_bits reading c.args.bits in
    let some : 0 < reading.bits = omega (arith, g.met.T.BitRegister.least_bits) in
    let first : ℕ = 64 * c.loop-k.k in
    let count : ℕ = c.min-count.result in
    let size : c.parts-head.result.2 ≡ length bits = c.parts-head.ensures.len in
    let few : first + count ≤ length bits = omega arith in
    let next : first + 64 ≡ 64 * (c.loop-k.k + 1) = omega arith in
    let at : HasChunk bits first count (chunk_bit c.args.direction c.chunk_at-chunk.result) = record {
      within = few;
      is = λ i low.
          let place : c.parts-head.result.1 + (first + i) ≡ c.parts-head.result.1 + first + i = omega arith in
          ap (λ xs. get_or xs (first + i) false) c.parts-head.ensures.bits
          ∙ window_bit reading c.parts-head.result.0.now c.parts-head.result.1 c.parts-head.result.2 (first + i) some
          (omega arith)
          ∙ ap (entry reading c.parts-head.result.0.now) place
          ∙ sym (c.chunk_at-chunk.ensures.inside i low);
    } in
    c.in_ok-add_chunk.ensures bits at c.loop-k.invariant
    ∙ ap (ones_from 0) (take_chunk first count bits (omega arith))
    ∙ ap (λ n. ones_from 0 (take n bits)) next

pub returns : goal.returns
returns g c =
    let bits = view_bits (read_by g.T.BitRegister g.O.Positions.position) c.args.bits in
    let all : length bits ≤ 64 * c.loop-k.k =
    omega (arith, c.div_ceil-k-end.ensures, c.parts-head.ensures.len, c.loop-k-test.false) in
    c.loop-k.invariant ∙ ap (ones_from 0) (take_all (64 * c.loop-k.k) bits all)
