use Rattle.stop_times.proofs.{Common.{arith, cases_lt, length_push, get_or_push}, VisitLemmas.{span_is, spans_next}}
use Rattle.stop_times.proofs.visits.bounds_of.Goals as goal

pub loop-trip-init : goal.loop-trip-init
loop-trip-init c = grind (arith, length_push)

pub loop-trip-preserved : goal.loop-trip-preserved
loop-trip-preserved c =
    let keys = c.args.keys.now in
    let trip = c.loop-trip.trip in
    let inv = c.loop-trip.invariant in
    let found = c.end_of-end.ensures in
    let old = c.loop-trip.bounds.items in
    let new = c.push-in-loop-trip.new.self.items in
    let end = c.end_of-end.result in
    let span = span_is keys c.requires.rising trip c.loop-trip.end end found.order found.inside inv.before inv.after found.here found.after in
    grind (arith, cases_lt, length_push, get_or_push, spans_next)
