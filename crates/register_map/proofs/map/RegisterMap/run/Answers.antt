use Rattle.std.proofs.Common.{◌≡◌, List, ap, subst}
use Rattle.bit_addressing.specs.Runs.{Runs}
use Rattle.bit_addressing.specs.Span.{Extent}
use Rattle.bit_addressing.proofs.CallerLemmas.{run_kept}
use Rattle.register_map.specs.Registers.{Registers}
use Rattle.register_map.specs.Words.{words}
use Rattle.register_map.proofs.map.RegisterMap.run.Goals as goal

pub returns-clause-kept : goal.returns-clause-kept
returns-clause-kept g c d own none =
    let before = c.args.memory.now in
    let after = c.run.new.memory in
    let commands = c.args.commands.now in
    let replies = c.run.new.replies in
    let same : c.self.inside.spans ≡ c.args.self.now.spans = ap (λ (map : Registers). map.spans) c.self.view_is in
    run_kept words before after c.args.self.now.spans commands replies d own none
    (subst (λ (spans : List Extent). Runs words before after spans commands replies) same c.run.ensures.run)
