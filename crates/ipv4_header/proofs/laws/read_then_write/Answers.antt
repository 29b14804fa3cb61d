use Rattle.std.proofs.Common.{ℕ, take, sym, ◌∙◌}
use Rattle.ipv4_header.specs.Header.{header_len}
use Rattle.ipv4_header.specs.Fields.{AreBytes}
use Rattle.ipv4_header.proofs.ByteLemmas.{same_bytes, bytes_take}
use Rattle.ipv4_header.proofs.laws.read_then_write.Goals as goal

pub returns-clause-ok : goal.returns-clause-ok
returns-clause-ok c =
    let bytes = c.args.bytes.now in
    let written = c.write.new.bytes in
    let n : ℕ = header_len c.in_ok-header.header in
    let are : AreBytes bytes = record { fit = λ k. (c.type_inv.bytes k).fits } in
    let new : AreBytes written = record { fit = λ k. (c.type_inv.target k).fits } in
    rw c.len.ensures
    (same_bytes (take n written) (take n bytes) (bytes_take n written new) (bytes_take n bytes are)
    (c.write.ensures.written.bits ∙ sym c.in_ok-header.ensures.ok.bits))
