use Rattle.std.proofs.Common.{rules}
use Rattle.std.proofs.lemmas.List.Elements.{filter_from_retain}
use Rattle.bit_containers_tests.proofs.kept.keep_ones.Goals as goal

pub returns : goal.returns
returns g c = filter_from_retain _ (λ bit. bit) (λ p bit answer q asked. search rules) _ _ _ c.retain.ensures.kept
