use Rattle.bit_addressing_memory.proofs.Common.{◌≡◌, ◌+◌, ◌*◌, ◌<◌, length, get_or, ap, ◌∙◌, arith, entry, read_by}
use Rattle.std.proofs.lemmas.List.{get_or_default}
use Rattle.bit_addressing_memory.proofs.ShiftedWords.{begins_across}
use Rattle.bit_slice_paths.proofs.WholeWordLemmas.{alike_digit}
use Rattle.bit_slice_paths.proofs.word_source.JoinedWordSource.word.Goals as goal

pub returns : goal.returns
returns g c i low =
    let its = read_by g.Q.BitRegister g.P.Positions.position in
    let b = g.R.BitRegister.BITS in
    let s = c.args.self.now in
    let at = s.first + c.args.k in
    let words = s.words.now in
    let one = get_or words at c.index-self-at.result in
    let two = get_or words (at + 1) c.index-self-at-2.result in
    let within : at + 1 < length words = omega arith in
    let small : i < its.bits = omega (arith, s.alike.bits) in
    let place : at * its.bits + s.by + i ≡ s.first * b + s.by + (c.args.k * b + i) = rw s.alike.bits (omega arith) in
    alike_digit b g.O.Positions.position its.bits g.P.Positions.position _ _ i s.alike low c.converted.ensures
    ∙ begins_across its words (at * its.bits + s.by) its.bits at s.by one two c.joined-its.result (omega arith) s.index
    (omega arith) within (get_or_default words at c.index-self-at.result one (omega arith))
    (get_or_default words (at + 1) c.index-self-at-2.result two within) c.joined-its.ensures i small
    ∙ ap (entry its words) place
