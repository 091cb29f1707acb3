use Rattle.graph_prune.proofs.Common.{◌≡◌, ◌++◌, drop, None, option_map, by_limits}
use Rattle.graph_prune.proofs.rows_by_limits.Given as goal

-- the rows so far, and those of the rows that remain
abbrev pub invariant-loop-row : goal.invariant-loop-row
invariant-loop-row l = l.all.items ++ by_limits l.network l.place.0 (drop l.row-index l.rows) (option_map (λ moment. moment.0) l.last) ≡ by_limits l.network l.place.0 l.rows None
