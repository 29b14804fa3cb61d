use Rattle.std.proofs.Common.{◌-◌, arith, length}
use Rattle.bit_table_layout.proofs.NameLemmas.{name-short, number-fits}
use Rattle.bit_table_layout.proofs.field_word.name_number.Goals as goal

pub overflow_mul-number : goal.overflow_mul-number
overflow_mul-number c =
    let short = name-short c.args.name.now c.requires in
    let fits =
    number-fits c.loop-place.place c.loop-place.number 0 (omega arith) c.loop-place.invariant.below (omega arith) in
    omega arith

pub overflow_add-number : goal.overflow_add-number
overflow_add-number c =
    let short = name-short c.args.name.now c.requires in
    let byte = c.type_inv.name (length c.args.name.now - 1 - c.loop-place.place) in
    let fits =
    number-fits c.loop-place.place c.loop-place.number c.from.result (omega arith) c.loop-place.invariant.below
    (omega arith) in
    omega arith

pub returns : goal.returns
returns c = c.loop-place.invariant.number 0 (omega arith)
