use Rattle.bit_slice_fields.proofs.PieceLemmas.{goes_for}
use Rattle.bit_slice_fields.proofs.digits.straight_of.Goals as goal

pub new-requires : goal.new-requires
new-requires g c =
    rw c.way_of.ensures (goes_for c.args.low g.T.BitRegister.BITS g.O.Positions.position c.requires.counts)
