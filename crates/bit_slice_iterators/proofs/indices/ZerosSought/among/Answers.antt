use Rattle.bit_slice_iterators.proofs.HeldLemmas.{flipped_digit}
use Rattle.bit_slice_iterators.proofs.indices.ZerosSought.among.Goals as goal

pub returns : goal.returns
returns c k low = flipped_digit c.args.digits k c.ranges.digits.fits low
