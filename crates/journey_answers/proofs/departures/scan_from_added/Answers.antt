use Rattle.journey_answers.proofs.Common.{◌≡◌, ◌+◌, arith, length}
use Rattle.journey_answers.proofs.departures.scan_from_added.Goals as goal

pub returns-clause-extended : goal.returns-clause-extended
returns-clause-extended c =
    let m = c.args.away.now.asked.problem.now.timetable.network in
    let gate = c.in_ok-network.ensures.gates.gates 0 (omega arith) in
    let here : length m.change + 0 ≡ c.places-places.result = omega (arith, c.places-places.ensures.count) in
    grind arith
