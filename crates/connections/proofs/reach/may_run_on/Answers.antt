use Rattle.connections.proofs.{Common.{arith, common_steps}, ReachLemmas.{none_run_early, none_run_late}}
use Rattle.connections.proofs.reach.may_run_on.Goals as goal

pub returns-then-not-ends_before : goal.returns-then-not-ends_before
returns-then-not-ends_before c = λ is. grind (arith, common_steps, none_run_early)

pub returns-else-not-ends_before : goal.returns-else-not-ends_before
returns-else-not-ends_before c = λ is. grind (arith, none_run_late)
