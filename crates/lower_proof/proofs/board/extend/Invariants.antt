use Rattle.lower_proof.proofs.Common.{◌≡◌, length, AreMinima}
use Rattle.lower_proof.proofs.board.extend.Given as goal

abbrev pub invariant-loop-k : goal.invariant-loop-k
invariant-loop-k l = record {
  sizes : length l.least ≡ length l.initial.least;
  minima : AreMinima l.values l.entries l.least l.k;
}
