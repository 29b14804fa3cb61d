use Rattle.std.proofs.Common.{◌+◌, ◌<◌, length, get_or, refl, arith}
use Rattle.std.proofs.lemmas.List.{get_or_default}
use Rattle.bit_slice_chunks.specs.Combined.{combined_bit}
use Rattle.bit_slice_paths.proofs.WholeWordLemmas.{merges_more}
use Rattle.bit_slice_paths.proofs.merge.MergeKernel.word.Goals as goal

pub returns-clause-done : goal.returns-clause-done
returns-clause-done g c s bits theirs had =
    let b = g.R.BitRegister.BITS in
    let some : 0 < b = omega (arith, g.met.R.BitRegister.least_bits) in
    let self = c.args.self.now in
    let at = self.first + c.args.k in
    let words = self.words.now in
    let within : at < length words = omega arith in
    let x = get_or words at c.index-self-at.result in
    merges_more b g.R.BitRegister.number g.O.Positions.position (combined_bit g.H.Combining.HOW) s.words.now words s.first
    self.first s.words.ghost_name self.words.ghost_name c.args.k at x c.args.its c.merged.result bits some refl within
    (get_or_default words at c.index-self-at.result x within) theirs c.merged.ensures had
