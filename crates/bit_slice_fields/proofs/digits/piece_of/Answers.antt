use Rattle.std.proofs.Common.{◌+◌, ◌<◌, ◌≤◌, inr, arith}
use Rattle.bit_slice_fields.specs.Number.{segment_end}
use Rattle.bit_slice_fields.proofs.PieceLemmas.{piece_is}
use Rattle.bit_slice_fields.proofs.digits.piece_of.Goals as goal

pub returns : goal.returns
returns c =
    let cut = c.args.cut in
    let n = c.args.n in
    let from = c.args.from in
    let end = c.min-end.result in
    let inside : end ≤ segment_end c.args.bits cut.head n from =
    omega (arith, c.min-end.ensures, c.end_of_segment.ensures.value) in
    let order : from < end =
    omega (arith, c.min-end.ensures, c.min-most.ensures, c.end_of_segment.ensures.behind) in
    let within : end ≤ n = omega (arith, c.min-end.ensures, c.min-most.ensures) in
    let few : end ≤ from + 64 = omega (arith, c.min-end.ensures, c.min-most.ensures) in
    piece_is cut.low cut.le c.args.bits cut.head n from end c.weight_in_segment.result c.requires.some order within few
    (inr inside) c.weight_in_segment.ensures
