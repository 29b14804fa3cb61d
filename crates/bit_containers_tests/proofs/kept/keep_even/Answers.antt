use Rattle.std.proofs.Common.{rules, nat_eq, ◌%◌}
use Rattle.bit_containers.proofs.CallerLemmas.{kept_by}
use Rattle.bit_containers_tests.proofs.kept.keep_even.Goals as goal

pub returns : goal.returns
returns g c =
    kept_by _ (λ i bit. nat_eq (i % 2) 0) (λ p i bit answer q asked. search rules) _ _ _ c.retain.ensures.kept
