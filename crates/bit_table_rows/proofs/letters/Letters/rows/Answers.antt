use Rattle.std.proofs.Common.{length, map, sym, ap, ◌∙◌}
use Rattle.bit_addressing_memory.specs.Memory.{read_by}
use Rattle.bit_containers_vector.specs.Vector.{vec_bits}
use Rattle.bit_table_rows.proofs.MarkLemmas.{length-marks}
use Rattle.bit_table_rows.proofs.SpaceLemmas.{sets_are}
use Rattle.bit_table_rows.proofs.letters.Letters.rows.Goals as goal

pub returns : goal.returns
returns g c =
    let reading = read_by g.T.BitRegister g.O.Positions.position in
    sym (length-marks (map (vec_bits reading) c.self.inside.lists) c.self.inside.rows) ∙ ap length (sets_are c.self.view_is)
