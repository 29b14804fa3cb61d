use Rattle.std.proofs.Common.{◌∙◌, sym}
use Rattle.bit_slice_tests.proofs.NetworkLemmas.{same_header}
use Rattle.bit_slice_tests.proofs.header.passed.Goals as goal

pub returns : goal.returns
returns c =
    let h = c.args.header in
    let r = c.read.result in
    let same = same_header r.version r.length r.id r.sequence h.version h.length h.id h.sequence r.four r.twelve
    r.sixteen r.thirty_two h.four h.twelve h.sixteen h.thirty_two (sym c.read.ensures ∙ c.write.ensures) in
    record { version = same.0; length = same.1; id = same.2; sequence = same.3 }
