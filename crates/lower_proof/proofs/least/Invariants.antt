use Rattle.lower_proof.proofs.{Common.{IsBoardableAtStart, IsLeastOf, Offers}, Leasts.Below}
use Rattle.lower_proof.proofs.least.Given as goal

abbrev pub invariant-loop-i : goal.invariant-loop-i
invariant-loop-i l = IsLeastOf (Below (Offers l.network l.values (IsBoardableAtStart l.network l.query.source.0 l.query.start.0)) l.i) l.least
