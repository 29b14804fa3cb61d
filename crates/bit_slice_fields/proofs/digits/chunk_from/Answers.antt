use Rattle.std.proofs.Common.{◌/◌, ◌%◌, ◌^◌, refl}
use Rattle.bit_slice_fields.specs.Pieces.{way_for}
use Rattle.bit_slice_fields.proofs.PieceLemmas.{chunk_holds}
use Rattle.bit_slice_fields.proofs.digits.chunk_from.Goals as goal

pub returns : goal.returns
returns c =
    chunk_holds (way_for c.args.low) c.args.digits c.args.weight c.args.len
    (c.args.digits / 2 ^ c.args.weight % 2 ^ 64) c.chunk_of.result c.requires.few refl
    (rw c.way_of.ensures at c.chunk_of.ensures)
