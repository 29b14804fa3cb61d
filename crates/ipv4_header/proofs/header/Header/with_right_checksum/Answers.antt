use Rattle.std.proofs.Common.{ap, sym, subst}
use Rattle.ipv4_header.specs.Header.{IsChecksumOf}
use Rattle.ipv4_header.proofs.LawLemmas.{same_checksum}
use Rattle.ipv4_header.proofs.header.Header.with_right_checksum.Goals as goal

pub returns-clause-right : goal.returns-clause-right
returns-clause-right c =
    let h = c.args.self.now in
    let made = c.with_checksum.result in
    let is = same_checksum h made c.wanted_checksum.result (c.with_checksum.ensures.fields 0)
    (ap (λ o. o.now) c.with_checksum.ensures.options) c.wanted_checksum.ensures in
    subst (IsChecksumOf made) (sym c.with_checksum.ensures.checksum) is
