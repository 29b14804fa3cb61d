use Rattle.std.proofs.Common.{◌≤◌, length, sym, ap, ◌∙◌, arith, map}
use Rattle.std.proofs.lemmas.List.{take_all}
use Rattle.register_map.specs.Devices.{extent_of}
use Rattle.register_map.proofs.sheet.spans.Goals as goal

pub returns : goal.returns
returns g c =
    let spans = c.loop-k.spans in
    let devices = c.args.devices.now in
    let past : length devices ≤ c.loop-k.k = omega arith in
    sym (take_all c.loop-k.k spans (omega arith))
    ∙ c.loop-k.invariant.filled
    ∙ ap (map extent_of) (take_all c.loop-k.k devices past)
