use Rattle.std.proofs.Common.{◌≡◌, eqb-true, eq-eqb, subst, sym}
use Rattle.ipv4_header.specs.Header.{IsChecksumOf}
use Rattle.ipv4_header.proofs.LawLemmas.{one_checksum}
use Rattle.ipv4_header.proofs.header.Header.has_right_checksum.Goals as goal

pub returns : goal.returns
returns c =
    let h = c.args.self.now in
    let wanted = c.wanted_checksum.result in (
      λ same. let n : h.checksum ≡ wanted = eqb-true h.checksum wanted same in subst (IsChecksumOf h) (sym n) c.wanted_checksum.ensures,
      λ right. eq-eqb h.checksum wanted (one_checksum h h.checksum wanted right c.wanted_checksum.ensures),
    )
