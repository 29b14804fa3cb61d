use Rattle.std.proofs.Common.{◌*◌, ◌∙◌}
use Rattle.bit_addressing_memory.specs.Memory.{read_by}
use Rattle.bit_containers_vector.specs.Vector.{vec_bits}
use Rattle.bit_table_rows.proofs.EditLemmas.{row_filled}
use Rattle.bit_table_rows.proofs.vectors.insert_row.Goals as goal

pub returns-clause-bits : goal.returns-clause-bits
returns-clause-bits g c =
    let reading = read_by g.T.BitRegister g.O.Positions.position in
    c.write_row.ensures.bits
    ∙ row_filled (vec_bits reading c.args.vector.now) (vec_bits reading c.open_row.new.vector)
    (g.V.Bits.bits c.args.row.now) (c.args.p * c.args.w) c.args.w c.requires.width (c.in_ok-writes.ensures).ok
