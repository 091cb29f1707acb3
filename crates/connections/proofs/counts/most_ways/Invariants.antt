use Rattle.connections.proofs.Common.{HaveWays}
use Rattle.connections.proofs.counts.most_ways.Given as goal

abbrev pub invariant-loop-place : goal.invariant-loop-place
invariant-loop-place l = HaveWays l.changes l.place l.most
