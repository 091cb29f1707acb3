use Rattle.feed_lists.proofs.StopLemmas.{stops_named}
use Rattle.feed_lists.proofs.stops.Stops.read.Goals as goal

pub read_ids-requires-clause-named : goal.read_ids-requires-clause-named
read_ids-requires-clause-named c = stops_named c.args.rows.now c.in_ok-parents.ensures.reports
