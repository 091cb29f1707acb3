use Rattle.connections.proofs.{Common.{append-nil, arith}, ReachLemmas.day_runs-none}
use Rattle.connections.proofs.runs.add_day.Goals as goal

pub returns-then-not-may_run_on : goal.returns-then-not-may_run_on
returns-then-not-may_run_on c = grind (arith, day_runs-none, append-nil)
