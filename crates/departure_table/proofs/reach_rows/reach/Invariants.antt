use Rattle.departure_table.proofs.{Common.All, ReachGrowth.IsReachTo}
use Rattle.departure_table.specs.Reach.{IsFoundAtGate}
use Rattle.departure_table.proofs.reach_rows.reach.Given as goal

abbrev pub invariant-loop-place : goal.invariant-loop-place
invariant-loop-place l = record {
  reach : IsReachTo l.network l.query l.query.start.0 l.place l.rows;
  found : All (IsFoundAtGate l.extended l.network l.query l.scanned) l.rows;
}
