use Rattle.delay_table.proofs.Common.{◌≡◌, ◌*◌, ◌≤◌, take, sum_by}
use Rattle.delay_table.proofs.sums.other_sum.Given as goal

abbrev pub invariant-loop-outcome : goal.invariant-loop-outcome
invariant-loop-outcome l = (l.sum ≡ sum_by (λ o. o.weight) (take l.outcome-index l.row)) × (l.sum ≤ 65535 * l.outcome-index)
