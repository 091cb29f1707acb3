use Rattle.connections.proofs.{Common.{arith, length, ap, ◌∙◌, length-list_below, place_seconds}, ConnectionLemmas.{valid, fits}}
use Rattle.connections.proofs.cuts.network_of_runs.Goals as goal

pub from_parts-requires : goal.from_parts-requires
from_parts-requires c =
    let runs = c.args.runs.now in let trips = runs.trips.now in
    let places = ap length c.in_ok-change.ensures.seconds ∙ length-list_below (place_seconds trips.changes.now) trips.stops ∙ trips.stops_counted in
    valid trips.feed.now c.args.delays.now c.in_ok-classes.ensures.sound trips.window trips.bounds trips.timed runs.list.now runs.apart runs.some
    (runs.few_connections c.args.delays.now) c.in_ok-change.change c.in_ok-change.ensures.fit places (omega (arith, trips.stop_ids.names.few)) c.in_ok-connections.connections
    c.in_ok-classes.classes c.in_ok-connections.ensures c.in_ok-classes.ensures.classes

pub returns-clause-fit : goal.returns-clause-fit
returns-clause-fit c =
    let runs = c.args.runs.now in let trips = runs.trips.now in
    let places = ap length c.in_ok-change.ensures.seconds ∙ length-list_below (place_seconds trips.changes.now) trips.stops ∙ trips.stops_counted in
    fits trips.feed.now c.args.delays.now c.in_ok-classes.ensures.sound trips.window trips.bounds trips.timed runs.list.now runs.apart runs.some
    (runs.few_connections c.args.delays.now) c.in_ok-change.change c.in_ok-change.ensures.fit places (omega (arith, trips.stop_ids.names.few)) c.from_parts.result
    c.in_ok-names.names (c.from_parts.ensures.connections ∙ c.in_ok-connections.ensures) c.from_parts.ensures.change c.in_ok-names.ensures.places trips.stop_ids.trimmed trips.trip_ids
    c.in_ok-names.ensures.runs

pub returns-clause-change : goal.returns-clause-change
returns-clause-change c = grind arith
