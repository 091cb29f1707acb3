use Rattle.plan_graph.proofs.Common.{◌≡◌, ◌++◌, drop, map}
use Rattle.plan_graph.proofs.chosen_rides.push_legs.Given as goal

-- the legs so far, and those that remain
abbrev pub invariant-loop-row : goal.invariant-loop-row
invariant-loop-row l = l.todo.items ++ map (λ row. row.leg) (drop l.row-index l.rows) ≡ l.initial.todo.items ++ map (λ row. row.leg) l.rows
