use Rattle.trip_replay.proofs.Onwards.{arrives_by_rows}
use Rattle.trip_replay.proofs.laws.a_late_trip_arrives.Goals as goal

pub returns : goal.returns
returns c = arrives_by_rows
