use Rattle.std.proofs.Common.{ap, sym}
use mathlib.Core.Bool.{xor}
use Rattle.bit_slice_paths.specs.Combined.{combined_bit}
use Rattle.bit_slice_words.proofs.combine.combined.Goals as goal

pub returns-in-Xor : goal.returns-in-Xor
unfolding xor
returns-in-Xor c = ap (λ how. combined_bit how c.args.bit c.args.other) (sym c.in-Xor.is)
