use Rattle.graph_score.proofs.{Common.{arith, both_ways}, GraphLegs.fit_place, legs.is_fit_row.Goals.then-place-places-via-then-place-places}
use Rattle.graph_score.proofs.legs.is_fit_row.Goals.{then-place-places-via-else-place-places+then-not-is_leg}
use Rattle.graph_score.proofs.legs.is_fit_row.Goals as goal

pub returns-then-place-places : goal.returns-then-place-places
returns-then-place-places c = grind (arith, then-place-places-via-then-place-places, fit_place, then-place-places-via-else-place-places+then-not-is_leg, both_ways)
