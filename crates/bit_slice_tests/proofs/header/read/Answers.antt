use Rattle.std.specs.Prelude.{pos}
use Rattle.bit_slice_fields.proofs.WholeLemmas.{low_pos}
use Rattle.bit_slice_tests.proofs.NetworkLemmas.{holds_list, header_held, holds_bytes}
use Rattle.bit_slice_tests.specs.Header.{header_number}
use Rattle.bit_slice_tests.proofs.header.read.Goals as goal

pub returns : goal.returns
returns c =
    let bytes = c.args.bytes.now in
    let v = c.take-version.result in
    let l = c.take-length.result in
    let d = c.take-id.result in
    let s = c.take-sequence.result in
    holds_bytes bytes (header_number v l d s) c.requires (λ k _. (c.type_inv.bytes k).fits)
    (header_held bytes v l d s c.take-length.ensures.within c.take-id.ensures.within c.take-sequence.ensures.within
    (holds_list bytes 0 4 v (pos v) (low_pos 4 v c.take-version.ensures.within) c.take-version.ensures.list)
    (holds_list bytes 4 12 l (pos l) (low_pos 12 l c.take-length.ensures.within) c.take-length.ensures.list)
    (holds_list bytes 16 16 d (pos d) (low_pos 16 d c.take-id.ensures.within) c.take-id.ensures.list)
    (holds_list bytes 32 32 s (pos s) (low_pos 32 s c.take-sequence.ensures.within) c.take-sequence.ensures.list))
