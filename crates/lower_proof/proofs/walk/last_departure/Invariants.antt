use Rattle.lower_proof.proofs.Common.{◌≡◌, ℕ, ◌<◌, ◌≤◌, None, dep_of, bound_of}
use Rattle.lower_proof.proofs.walk.last_departure.Given as goal

abbrev pub invariant-loop-i : goal.invariant-loop-i
invariant-loop-i l = record {
  deadline : l.fn.deadline.0 ≤ l.last.0;
  none : (c : ℕ) → c < l.i → l.last.0 < dep_of l.network c → bound_of l.values c ≡ None;
}
