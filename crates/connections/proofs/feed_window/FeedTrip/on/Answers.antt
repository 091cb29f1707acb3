use Rattle.connections.proofs.{Common.{length, sym, subst, rows_of, AreRepeats, DepartOnDay}, ReachLemmas.departures_are}
use Rattle.connections.proofs.feed_window.FeedTrip.on.Goals as goal

pub invariant_of-result : goal.invariant_of-result
invariant_of-result c =
    let trip = c.args.self.now in let all = trip.trips.now in let feed = all.feed.now in record {
      bounds = all.bounds;
      departures = subst DepartOnDay (sym c.stop_times.ensures) (departures_are (rows_of feed trip.number) (length feed.stop_ids) (all.timed trip.number trip.inside));
      repeats = subst AreRepeats (sym c.frequencies.ensures) (all.repeating trip.number trip.inside);
    }
