use Rattle.bit_slice_views.proofs.CompareLemmas.{equal_decided}
use Rattle.bit_slice_views.proofs.compare.BitSlicePartialEq.eq.Goals as goal

pub returns : goal.returns
returns g c = let e = c.equal_by_path.ensures in equal_decided _ _ _ e.0 e.1
