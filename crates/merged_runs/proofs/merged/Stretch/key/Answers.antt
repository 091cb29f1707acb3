use Rattle.merged_runs.proofs.Common.{◌-◌, arith, cond-true, cond-false, le-ltb, lt-ltb}
use Rattle.merged_runs.proofs.merged.Stretch.key.Goals as goal

pub returns-then-self : goal.returns-then-self
returns-then-self c = grind (arith, cond-false, le-ltb)

pub returns : goal.returns
returns c = grind (arith, cond-true, lt-ltb)
