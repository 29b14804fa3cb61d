use Rattle.std.proofs.Common.{arith}
use Rattle.bit_table_image.proofs.bytes.are_bytes.Goals as goal

pub returns : goal.returns
returns c k = omega (arith, c.type_inv.bytes k)
