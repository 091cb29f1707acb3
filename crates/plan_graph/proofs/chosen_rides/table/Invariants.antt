use Rattle.plan_graph.proofs.Common.{◌≡◌, ◌++◌, drop, rows_for}
use Rattle.plan_graph.proofs.chosen_rides.table.Given as goal

-- the rows so far, and those of the outcomes that remain
abbrev pub invariant-loop-outcome : goal.invariant-loop-outcome
invariant-loop-outcome g l =
    let rows = rows_for (g.C.LegChoice.chosen l.choice l.network l.leg) l.exit.arr.0 in
    l.rows.items ++ rows (drop l.outcome-index l.outcome-items) ≡ rows l.outcome-items
