use Rattle.window_laws.proofs.Inserted.{inserted_part}
use Rattle.window_laws.proofs.feeds.one_trip_more_has_more.Goals as goal

pub returns : goal.returns
returns c = inserted_part
