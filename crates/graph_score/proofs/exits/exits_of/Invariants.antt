use Rattle.graph_score.proofs.Common.{◌≡◌, map, take, departure_of, exit_of}
use Rattle.graph_score.proofs.exits.exits_of.Given as goal

-- the exits of the legs so far
abbrev pub invariant-loop-leg : goal.invariant-loop-leg
invariant-loop-leg l = l.exits.items ≡ map (λ leg. departure_of l.network (exit_of leg)) (take l.leg-index l.legs)
