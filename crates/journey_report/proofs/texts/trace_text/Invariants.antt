use Rattle.journey_report.proofs.Common.{◌≡◌, ◌++◌, drop, rides_text}
use Rattle.journey_report.proofs.texts.trace_text.Given as goal

-- the text so far, and that of the rides that remain
abbrev pub invariant-loop-ride : goal.invariant-loop-ride
invariant-loop-ride l =
    let t = l.trip.problem.now.timetable in
    let rides = l.trip.trace.now.rides in
    l.text.items ++ rides_text t.network t.names (drop l.ride-index rides) ≡ rides_text t.network t.names rides
