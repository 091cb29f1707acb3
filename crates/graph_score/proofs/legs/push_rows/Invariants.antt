use Rattle.graph_score.proofs.Common.{◌≡◌, ◌++◌, drop, map, Row}
use Rattle.graph_score.proofs.legs.push_rows.Given as goal

-- the legs so far, and those that remain
abbrev pub invariant-loop-row : goal.invariant-loop-row
invariant-loop-row l = l.legs.items ++ map (λ row. Row l.place row) (drop l.row-index l.rows) ≡ l.initial.legs.items ++ map (λ row. Row l.place row) l.rows
