use Rattle.std.proofs.Common.{◌+◌, ◌<◌, length, get_or, refl, arith}
use Rattle.std.proofs.lemmas.List.{get_or_default}
use Rattle.bit_slice_paths.proofs.WholeWordLemmas.{compares_more}
use Rattle.bit_slice_paths.proofs.match_words.CompareKernel.word.Goals as goal

pub returns-clause-done : goal.returns-clause-done
returns-clause-done g c s bits theirs had =
    let b = g.R.BitRegister.BITS in
    let number = g.R.BitRegister.number in
    let self = c.args.self.now in
    let at = self.first + c.args.k in
    let words = self.words.now in
    let within : at < length words = omega arith in
    let x = get_or words at c.index-self-self.result in
    compares_more b number g.O.Positions.position g.O.OrderCandidate.selector g.O.OrderCandidate.masked s.words.now words
    s.first self.first (number s.differ) (number self.differ) c.args.k at x c.args.its _ _ bits
    g.met.O.BitOrder.lawful (g.met.R.BitRegister.number_fits x) (g.met.R.BitRegister.number_fits c.args.its) refl within
    (get_or_default words at c.index-self-self.result x within) theirs c.xor.ensures c.or-self.ensures had
