use Rattle.bit_table_rows.proofs.SpaceLemmas.{space_held}
use Rattle.bit_table_rows.proofs.letters.Letters.new.Goals as goal

pub invariant_of-result : goal.invariant_of-result
invariant_of-result g c =
    let are = c.empty_lists.ensures in
    (are, space_held g.O.Positions.position 0 c.empty_lists.result are)
