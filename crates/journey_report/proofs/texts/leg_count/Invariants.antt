use Rattle.journey_report.proofs.Common.{◌≡◌, ◌+◌, ◌*◌, ◌≤◌, length, take, sum_by, ◌^◌, start_count}
use Rattle.journey_report.proofs.texts.leg_count.Given as goal

-- the legs of the tables so far, and how many these may be
abbrev pub invariant-loop-table : goal.invariant-loop-table
invariant-loop-table l = record {
  legs : l.legs ≡ start_count l.graph.start + sum_by (λ table. length table.rows) (take l.table-index l.graph.tables);
  few : l.legs ≤ 1 + l.table-index * 2 ^ 64;
}
