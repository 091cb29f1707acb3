use Rattle.graph_score.proofs.Common.{AllWithin, IsFitLeg}
use Rattle.graph_score.proofs.legs.first_wrong.Given as goal

-- those that were looked at fit
abbrev pub invariant-loop-at : goal.invariant-loop-at
invariant-loop-at l = AllWithin (IsFitLeg l.network l.query) l.legs 0 l.at
