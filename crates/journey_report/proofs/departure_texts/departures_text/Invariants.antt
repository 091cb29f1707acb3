use Rattle.journey_report.proofs.Common.{◌≡◌, ◌++◌, drop, rows_text, departures_text}
use Rattle.journey_report.proofs.departure_texts.departures_text.Given as goal

-- the text so far, and that of the rows that remain
abbrev pub invariant-loop-departure : goal.invariant-loop-departure
invariant-loop-departure l =
    let t = l.named.timetable.now in
    l.text.items ++ rows_text t.network t.names (drop l.departure-index l.departures) ≡ departures_text t.network t.names l.named.query l.fn.last.moment.0 l.departures
