use Rattle.trip_replay.proofs.Arrivals.{arrives}
use Rattle.trip_replay.proofs.laws.a_safe_trip_arrives.Goals as goal

pub returns : goal.returns
returns c = arrives
