use Rattle.feed_lists.proofs.{Common.{arith, rules, length-map, trips_fault}, TripLemmas.trips_named}
use Rattle.table_files.proofs.ReadSteps.{read_steps}
use Rattle.feed_lists.proofs.trips.read_trips.Goals as goal

pub read_ids-requires-clause-named : goal.read_ids-requires-clause-named
read_ids-requires-clause-named c = trips_named c.args.routes.now.ids c.args.rows.now c.in_ok-of_trips.ensures.reports

pub returns-clause-reports : goal.returns-clause-reports
unfolding trips_fault
returns-clause-reports c = grind (arith, read_steps)

pub returns-clause-sound : goal.returns-clause-sound
returns-clause-sound c = search (rules, returns-clause-reports, length-map, read_steps)
