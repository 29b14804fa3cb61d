-- A kind that takes the least number and the greatest takes all, and one that takes all takes these.
use Rattle.std.proofs.Common.{rules, SFits}
use Rattle.std.specs.Int.{w128}
use Rattle.std.proofs.lemmas.Int.{to_z-of_z}
use Rattle.column_table.proofs.WidthLemmas.{narrowest_of, none_of}
use Rattle.column_table.proofs.width.narrowest.Goals as goal

pub returns-clause-narrowest : goal.returns-clause-narrowest
returns-clause-narrowest c =
    let low : SFits w128 c.range_with_0-least.result.0 = search rules in
    let high : SFits w128 c.range_with_0-least.result.1 = search rules in
    let found = simp to_z-of_z at c.narrowest_between.ensures.some in
    narrowest_of c.args.numbers.now _ _ c.narrowest_between.result c.range_with_0-least.ensures found

pub returns-clause-none : goal.returns-clause-none
returns-clause-none c =
    let low : SFits w128 c.range_with_0-least.result.0 = search rules in
    let high : SFits w128 c.range_with_0-least.result.1 = search rules in
    let found = simp to_z-of_z at c.narrowest_between.ensures.none in
    none_of c.args.numbers.now _ _ c.narrowest_between.result c.range_with_0-least.ensures found
