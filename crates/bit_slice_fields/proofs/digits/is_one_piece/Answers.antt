use Rattle.std.proofs.Common.{◌+◌, inr, arith}
use Rattle.std.proofs.lemmas.Bool.{leb-true}
use Rattle.bit_slice_fields.proofs.PieceLemmas.{whole_piece}
use Rattle.bit_slice_fields.proofs.digits.is_one_piece.Goals as goal

pub returns-else-cut : goal.returns-else-cut
returns-else-cut c = λ is.
    whole_piece c.args.cut.low c.args.cut.le c.args.bits c.args.cut.head c.args.n c.requires.some c.requires.head
    (omega arith) (omega arith) (inr (leb-true (c.args.cut.head + c.args.n) c.args.bits is))
