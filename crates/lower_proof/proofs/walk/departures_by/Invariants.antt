use Rattle.lower_proof.proofs.{Common.IsValid, Departing.AreFound}
use Rattle.lower_proof.proofs.walk.departures_by.Given as goal

abbrev pub invariant-loop-i : goal.invariant-loop-i
invariant-loop-i l = record {
  valid : IsValid l.network;
  found : AreFound l.network l.last.0 l.i l.departures.items;
}
