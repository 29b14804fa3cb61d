use Rattle.bit_addressing_memory.proofs.Common.{◌≢◌, sym, ◌∙◌, arith, read_by}
use Rattle.bit_slice_words.proofs.CompareLemmas.{windows_compare_differ}
use Rattle.bit_slice_words.proofs.compare.compare_at.Goals as goal

pub returns-then-same-min : goal.returns-then-same-min
returns-then-same-min g c =
    let mine = c.read_entry-bit in
    let theirs = c.read_entry-other in
    let agree = c.requires.agrees in
    let other : mine.result ≢ theirs.result =
    λ same. agree.differ (omega arith) (sym mine.ensures.value ∙ same ∙ theirs.ensures.value) in
    windows_compare_differ (read_by g.R.BitRegister g.O.Positions.position) c.args.words.now
    (read_by g.Q.BitRegister g.P.Positions.position) c.args.others.now c.args.place c.args.other_place c.args.len
    c.args.other_len c.args.same mine.result theirs.result c.cmp.result
    (omega (arith, g.met.R.BitRegister.least_bits)) (omega (arith, g.met.Q.BitRegister.least_bits)) c.requires.lies.within
    c.requires.other_lies.within (omega arith) (omega arith) mine.ensures.value theirs.ensures.value agree.same other
    c.cmp.ensures
