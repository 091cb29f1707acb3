use Rattle.connections.proofs.{Common.{◌<◌, length, sym, subst, arith, nat_tests, nil_from_length, rows_of, DepartOnDay}, ReachLemmas.{departures_are, over-next}}
use Rattle.connections.proofs.reach.latest_of.Goals as goal

pub last_departure-requires : goal.last_departure-requires
last_departure-requires c =
    let f = c.args.feed.now in let trip = c.loop-trip.trip in
    let inside : trip < length f.trip_ids = omega (arith, c.loop-trip-test.true, c.trip_count-trip-end.ensures.count) in
    subst DepartOnDay (sym c.stop_times.ensures) (departures_are (rows_of f trip) (length f.stop_ids) (c.trip_count-trip-end.ensures.timed trip inside))

pub loop-trip-preserved : goal.loop-trip-preserved
loop-trip-preserved c = grind (arith, nil_from_length, nat_tests, over-next)
