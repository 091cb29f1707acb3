use Rattle.stop_times.proofs.Common.{◌≡◌, list_below, visit_at}
use Rattle.stop_times.proofs.visits.visits_by.Given as goal

abbrev pub invariant-loop-k : goal.invariant-loop-k
invariant-loop-k l = l.visits.items ≡ list_below (visit_at l.rows l.keys) l.k
