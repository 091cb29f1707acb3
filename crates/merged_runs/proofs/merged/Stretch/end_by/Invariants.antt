use Rattle.merged_runs.proofs.Common.{◌-◌, IsParted}
use Rattle.merged_runs.proofs.merged.Stretch.end_by.Given as goal

abbrev pub invariant-loop-low : goal.invariant-loop-low
invariant-loop-low l = IsParted l.self.network.now l.last.0 l.self.from l.low l.high l.self.to

abbrev pub decreases-loop-low : goal.decreases-loop-low
decreases-loop-low l = l.high - l.low
