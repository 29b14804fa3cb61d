use Rattle.std.proofs.Common.{ap}
use Rattle.ipv4_header.proofs.LawLemmas.{written_checksum}
use Rattle.ipv4_header.proofs.header.Header.wanted_checksum.Goals as goal

pub returns : goal.returns
returns c =
    let made = c.with_checksum-blank.ensures in
    let sum = c.checksum.ensures in
    written_checksum c.args.self.now c.with_checksum-blank.result c.write.new.bytes c.len.result c.checksum.result
    c.len.ensures sum.bytes c.write.ensures.written made.checksum (made.fields 0) (ap (λ o. o.now) made.options) sum.value
