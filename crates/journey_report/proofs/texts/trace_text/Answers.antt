use Rattle.journey_report.proofs.{Common.{◌∙◌, ◌≤◌, List, length, subst, Ridden, name_is}, TextLemmas.trace_end}
use Rattle.journey_report.proofs.texts.trace_text.Goals as goal

pub returns : goal.returns
returns c =
    let p = c.args.trip.now.problem.now in
    let trace = c.args.trip.now.trace.now in
    trace_end p.timetable.network p.timetable.names trace.rides c.loop-ride.ride-index c.loop-ride.text.items c.as_slice-2.result.now
    c.extend_from_slice-2.new.self.items c.place_name-target.result.now _ trace.arrival
    (subst (λ (rides : List Ridden). length rides ≤ c.loop-ride.ride-index) c.as_slice-ride-items.ensures c.loop-ride-test.false) c.loop-ride.invariant
    c.in_ok-extend_from_slice-2.ensures.items (c.as_slice-2.ensures.value ∙ c.in_ok-row-2.ensures)
    (name_is p.timetable.names.places p.target.0 c.place_name-target.result.now c.place_name-target.ensures.name)
