use Rattle.std.proofs.Common.{rules, SFits, get_or, pos}
use Rattle.std.specs.Int.{w128}
use Rattle.std.proofs.lemmas.Int.{to_z-of_z}
use Rattle.column_table.proofs.WidthLemmas.{range_more}
use Rattle.column_table.proofs.width.range_with_0.Goals as goal

pub loop-number-preserved : goal.loop-number-preserved
loop-number-preserved c =
    let low : SFits w128 c.min-least.result = search rules in
    let high : SFits w128 c.max-greatest.result = search rules in
    let number : SFits w128 (get_or c.args.numbers.now c.loop-number.number-index (pos 0)) = search rules in
    let least = simp to_z-of_z at c.min-least.ensures in
    let greatest = simp to_z-of_z at c.max-greatest.ensures in
    simp to_z-of_z (range_more c.loop-number.number-index c.args.numbers.now _ _
    c.min-least.result c.max-greatest.result c.loop-number.invariant least greatest)
