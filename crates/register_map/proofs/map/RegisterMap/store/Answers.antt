use Rattle.std.proofs.Common.{◌<◌, ◌≤◌, ◌^◌, ℕ, refl, arith, lit<}
use Rattle.std.proofs.Math.Nat.{pow-le-pow_right}
use Rattle.register_map.proofs.RegisterLemmas.{kept_copied, number_stored}
use Rattle.register_map.proofs.map.RegisterMap.store.Goals as goal

pub returns-clause-own : goal.returns-clause-own
returns-clause-own g c =
    let part = c.in_ok-place.ensures in
    let own = part.ok.0 refl in
    let n : ℕ = c.in_ok-place.width in
    let few : n ≤ 32 = omega (arith, part.width, part.map.few c.args.device own) in
    let power : 2 ^ n ≤ 2 ^ 32 = pow-le-pow_right (lit< tt) few in
    let low : c.args.number < 2 ^ n = omega (arith, c.from.ensures, c.if-from-width.false) in
    number_stored c.args.self.now c.args.memory.now c.copy_between.new.words c.args.device c.in_ok-place.place n
    c.args.number part.map c.requires.memory own part.place part.width low c.ranges.number.fits c.copy_between.ensures.copied

pub returns-clause-others : goal.returns-clause-others
returns-clause-others g c =
    let part = c.in_ok-place.ensures in
    kept_copied c.args.self.now c.args.memory.now c.copy_between.new.words c.args.device c.in_ok-place.place
    c.in_ok-place.width _ part.map (part.ok.0 refl) part.place part.width c.copy_between.ensures.copied
