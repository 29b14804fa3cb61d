use Rattle.std.proofs.Common.{rules}
use Rattle.register_map.proofs.DeviceLemmas.{map_made}
use Rattle.register_map.proofs.map.RegisterMap.new.Goals as goal

pub invariant_of-result : goal.invariant_of-result
invariant_of-result g c =
    let none = c.fault.ensures.none.0 (search rules) in
    rw c.spans.ensures (map_made c.args.devices.now c.args.size none.0 none.1)
