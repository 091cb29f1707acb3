use Rattle.lower_proof.proofs.{Common.{◌≡◌, arith, ap, subst, Departure, count, dep_of}, Departing.{AreFound, found_later, found_more, departures_sorted}}
use Rattle.lower_proof.proofs.walk.departures_by.Goals.{then-departure-last+in_ok-push, else-departure-last}
use Rattle.lower_proof.proofs.walk.departures_by.Goals as goal

pub loop-i-preserved : goal.loop-i-preserved
loop-i-preserved c =
    let n = c.args.network.now in
    let loop = c.loop-i in
    let departures = loop.departures.items in
    let departs : c.new-departure.result.dep.0 ≡ dep_of n loop.i = ap (λ (d : Departure). d.dep.0) c.new-departure.ensures in
    elim c.if-departure-last.branch [
      | then-departure-last+in_ok-push w ↦
          let soon = w.if-departure-last.true in
          rw (w.departures-is, w.in_ok-push.ensures.items) (record {
            valid = loop.invariant.valid;
            found = found_more n c.args.last.0 loop.i departures c.new-departure.result (omega (arith, c.count-i-end.ensures.count)) c.new-departure.ensures
                (omega arith) loop.invariant.found;
          })
      | else-departure-last w ↦
          let late = w.if-departure-last.false in
          rw w.departures-is (record { valid = loop.invariant.valid; found = found_later n c.args.last.0 loop.i departures (omega (arith, departs)) loop.invariant.found })
    ]

pub returns-clause-departures : goal.returns-clause-departures
returns-clause-departures c =
    let n = c.args.network.now in
    let departures = c.loop-i.departures.items in
    let whole : c.loop-i.i ≡ count n = omega (arith, c.count-i-end.ensures.count) in
    departures_sorted n c.loop-i.invariant.valid c.args.last.0 departures c.in_scan_order.result.items
    (subst (λ m. AreFound n c.args.last.0 m departures) whole c.loop-i.invariant.found) c.in_scan_order.ensures.permutation c.in_scan_order.ensures.rising
