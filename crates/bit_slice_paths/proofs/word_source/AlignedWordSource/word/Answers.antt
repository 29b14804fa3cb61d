use Rattle.bit_addressing_memory.proofs.Common.{◌≡◌, ◌+◌, ◌*◌, ◌<◌, length, sym, ap, ◌∙◌, arith, entry, read_by}
use Rattle.bit_addressing_memory.proofs.EntryLemmas.{entry_at}
use Rattle.bit_slice_paths.proofs.WholeWordLemmas.{alike_digit}
use Rattle.bit_slice_paths.proofs.word_source.AlignedWordSource.word.Goals as goal

pub returns : goal.returns
returns g c i low =
    let its = read_by g.Q.BitRegister g.P.Positions.position in
    let b = g.R.BitRegister.BITS in
    let s = c.args.self.now in
    let at = s.first + c.args.k in
    let within : at < length s.words.now = omega arith in
    let small : i < its.bits = omega (arith, s.alike.bits) in
    let place : at * its.bits + i ≡ s.first * b + (c.args.k * b + i) = rw s.alike.bits (omega arith) in
    alike_digit b g.O.Positions.position its.bits g.P.Positions.position _ _ i s.alike low c.converted.ensures
    ∙ sym (entry_at its s.words.now at i c.index-self-self.result small within)
    ∙ ap (entry its s.words.now) place
