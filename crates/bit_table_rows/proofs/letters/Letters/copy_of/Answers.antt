use Rattle.std.proofs.Common.{length, map, sym, ap, ◌∙◌}
use Rattle.bit_addressing_memory.specs.Memory.{read_by}
use Rattle.bit_containers_vector.specs.Vector.{vec_bits}
use Rattle.bit_table_rows.specs.Lists.{AreColumns}
use Rattle.bit_table_rows.specs.Marks.{marks_of}
use Rattle.bit_table_rows.proofs.MarkLemmas.{length-marks}
use Rattle.bit_table_rows.proofs.ColumnLemmas.{columns_copied, are_columns_copied}
use Rattle.bit_table_rows.proofs.SpaceLemmas.{sets_are, space_held}
use Rattle.bit_table_rows.proofs.letters.Letters.copy_of.Goals as goal

pub invariant_of-result : goal.invariant_of-result
invariant_of-result g c =
    let reading = read_by g.T.BitRegister g.O.Positions.position in
    let other = read_by g.Q.BitRegister g.P.Positions.position in
    let n = c.others.inside.rows in
    let lists = c.copy_lists.new.lists in
    let are : AreColumns reading n lists =
    are_columns_copied reading other n c.empty_lists-lists.result lists c.others.inside.lists
    c.empty_lists-lists.ensures c.others.invariant.0 c.in_ok-copy_lists.ensures in
    (are, space_held g.O.Positions.position n lists are)

pub returns-clause-space : goal.returns-clause-space
returns-clause-space g c =
    let other = read_by g.Q.BitRegister g.P.Positions.position in
    sym (length-marks (map (vec_bits other) c.others.inside.lists) c.others.inside.rows)
    ∙ ap length (sets_are c.others.view_is)

pub returns-clause-sets : goal.returns-clause-sets
returns-clause-sets g c =
    ap (marks_of c.others.inside.rows)
    (columns_copied (read_by g.T.BitRegister g.O.Positions.position) (read_by g.Q.BitRegister g.P.Positions.position)
    c.others.inside.rows c.empty_lists-lists.result c.copy_lists.new.lists c.others.inside.lists
    c.empty_lists-lists.ensures c.others.invariant.0 c.in_ok-copy_lists.ensures)
    ∙ (sets_are c.others.view_is)
