use Rattle.std.proofs.Common.{◌*◌, ◌∷◌, [], ◌++◌, take, drop, sym, ap₂, ◌∙◌, arith}
use Rattle.std.proofs.lemmas.List.FromFn.{map-range_with_len_more}
use Rattle.bit_addressing_memory.specs.Memory.{read_by}
use Rattle.bit_slice_views.specs.View.{view_bits}
use Rattle.bit_table_layout.specs.Images.{byte_of}
use Rattle.bit_table_image.proofs.bytes.bytes_singly.Goals as goal

pub loop-index-preserved : goal.loop-index-preserved
loop-index-preserved g c =
    let bits = view_bits (read_by g.T.BitRegister g.O.Positions.position) c.args.bits in
    c.in_ok-push.ensures.items ∙ ap₂ (λ l b. l ++ b ∷ []) c.loop-index.invariant c.byte.ensures
    ∙ sym (map-range_with_len_more (λ k. byte_of c.args.rule (take 8 (drop (8 * k) bits))) 0 c.loop-index.index
    c.loop-index.index (omega arith))
