use Rattle.std.proofs.Common.{◌≡◌, inl, lit≤, length, ◌∙◌}
use Rattle.std.specs.Prelude.{pos}
use Rattle.bit_slice_fields.proofs.WholeLemmas.{low_pos}
use Rattle.bit_slice_tests.proofs.NetworkLemmas.{HoldsNumber, holds_list, holds_beside, header_held, holds_bytes}
use Rattle.bit_slice_tests.specs.Header.{header_number}
use Rattle.bit_slice_tests.proofs.header.write_fields.Goals as goal

pub returns : goal.returns
returns c =
    let h = c.args in
    let one = c.put.new.bytes in
    let two = c.put-2.new.bytes in
    let three = c.put-3.new.bytes in
    let four = c.put-4.new.bytes in
    let version : HoldsNumber four 0 4 h.version =
    holds_beside three four 0 4 h.version 32 32 (inl (lit≤ tt)) c.put-4.ensures.beside
    (holds_beside two three 0 4 h.version 16 16 (inl (lit≤ tt)) c.put-3.ensures.beside
    (holds_beside one two 0 4 h.version 4 12 (inl (lit≤ tt)) c.put-2.ensures.beside
    (holds_list one 0 4 h.version (pos h.version) (low_pos 4 h.version c.requires.four) c.put.ensures.list))) in
    let length_ : HoldsNumber four 4 12 h.count =
    holds_beside three four 4 12 h.count 32 32 (inl (lit≤ tt)) c.put-4.ensures.beside
    (holds_beside two three 4 12 h.count 16 16 (inl (lit≤ tt)) c.put-3.ensures.beside
    (holds_list two 4 12 h.count (pos h.count) (low_pos 12 h.count c.requires.twelve) c.put-2.ensures.list)) in
    let id : HoldsNumber four 16 16 h.id =
    holds_beside three four 16 16 h.id 32 32 (inl (lit≤ tt)) c.put-4.ensures.beside
    (holds_list three 16 16 h.id (pos h.id) (low_pos 16 h.id c.ranges.id.fits) c.put-3.ensures.list) in
    let sequence : HoldsNumber four 32 32 h.sequence =
    holds_list four 32 32 h.sequence (pos h.sequence) (low_pos 32 h.sequence c.ranges.sequence.fits) c.put-4.ensures.list in
    let size : length four ≡ 8 =
    c.put-4.ensures.beside.words ∙ c.put-3.ensures.beside.words ∙ c.put-2.ensures.beside.words
    ∙ c.put.ensures.beside.words ∙ c.requires.size in
    holds_bytes four (header_number h.version h.count h.id h.sequence) size (λ k _. (c.type_inv.bytes k).fits)
    (header_held four h.version h.count h.id h.sequence c.requires.twelve c.ranges.id.fits c.ranges.sequence.fits version length_ id sequence)
