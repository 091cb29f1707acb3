use Rattle.gtfs_tables.proofs.Common.{IsFeedTable, own-of, Stops, Routes, Trips, reads-raised, reads-value, reads-fault, reads-both, reads-after}
use Rattle.gtfs_tables.proofs.FeedLemmas.{fault_at_stops, fault_at_routes, fault_at_trips}
use Rattle.gtfs_tables.proofs.lists.load_lists.Goals as goal

pub returns-in_err-stops-clause-reads : goal.returns-in_err-stops-clause-reads
returns-in_err-stops-clause-reads g c = reads-raised c.from_residual.result c.from_residual.ensures
    (reads-fault (own-of IsFeedTable Stops _ tt) (λ m own first. fault_at_stops m c.args.folder.now c.args.limits.now _ first) c.in_err-stops.ensures.reads)

pub returns-in_err-routes-clause-reads : goal.returns-in_err-routes-clause-reads
returns-in_err-routes-clause-reads g c = reads-raised c.from_residual-in_err-routes.result c.from_residual-in_err-routes.ensures
    (reads-fault (own-of IsFeedTable Routes _ tt) (λ m own p. fault_at_routes m c.args.folder.now c.args.limits.now c.in_ok-stops.stops _ own p.0 p.1)
    (reads-after c.in_ok-stops.ensures.reads c.in_err-routes.ensures.reads))

pub returns-in_err-trips-clause-reads : goal.returns-in_err-trips-clause-reads
returns-in_err-trips-clause-reads g c = reads-raised c.from_residual-in_err-trips.result c.from_residual-in_err-trips.ensures
    (reads-fault (own-of IsFeedTable Trips _ tt) (λ m own p. fault_at_trips m c.args.folder.now c.args.limits.now c.in_ok-stops.stops c.in_ok-routes.routes _ own p.0.0 p.0.1 p.1)
    (reads-after (reads-both c.in_ok-stops.ensures.reads c.in_ok-routes.ensures.reads) c.in_err-trips.ensures.reads))

pub returns-clause-reads : goal.returns-clause-reads
returns-clause-reads g c = reads-value (λ m p. record { stops = p.0.0; routes = p.0.1; trips = p.1 })
    (reads-both (reads-both c.in_ok-stops.ensures.reads c.in_ok-routes.ensures.reads) c.in_ok-trips.ensures.reads)

pub returns-clause-sound : goal.returns-clause-sound
returns-clause-sound g c = record { stops = c.in_ok-stops.ensures.sound; routes = c.in_ok-routes.ensures.sound; trips = c.in_ok-trips.ensures.sound }
