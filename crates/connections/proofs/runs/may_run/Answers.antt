use Rattle.connections.proofs.{Common.{arith, nat_tests, nil_from_length}, ReachLemmas.none_early_all}
use Rattle.connections.proofs.runs.may_run.Goals as goal

pub returns-else-not-starts_after : goal.returns-else-not-starts_after
returns-else-not-starts_after c = λ is. grind (arith, nat_tests, nil_from_length, none_early_all)
