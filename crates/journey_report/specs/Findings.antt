-- What a report says, besides its status and its fault.
use Rattle.std.specs.Prelude.{ℕ, List, Option, None, Some}
use Rattle.plan_model.specs.declared.model.{Moment.Moment, Query.Query}
use Rattle.departure_table.specs.declared.{DepartureRow.DepartureRow, reach_rows.ReachRow.ReachRow}
use Rattle.interval_fixed.specs.Interval.{Interval}
use Rattle.plan_graph.specs.declared.{ExpandedGraph.ExpandedGraph, PlanGraph.PlanGraph}
use Rattle.trip_replay.specs.declared.Trace.{Trace}
use Rattle.lower_proof.specs.declared.LowerBounds.{LowerBounds}
use Rattle.journey_report.specs.declared.report.Report.{Report}

-- a report whose status and fault are of no account
abbrev pub Findings : Type 0
Findings = Report

abbrev pub findings_of : Report → Findings
findings_of r = record r { status = record { 0 = 0 }; fault = None }

abbrev pub no_findings : Findings
no_findings = record {
  status = record { 0 = 0 };
  query = None;
  worst = None;
  expanded = None;
  graph = None;
  bounds = None;
  trace = None;
  connections = None;
  proof = None;
  least = None;
  chance = None;
  departures = None;
  latest = None;
  reach = None;
  fault = None;
}

-- the least worst arrival and the deadline
abbrev pub safe_findings : Query → Moment → Findings
safe_findings q worst = record no_findings { query = Some q; worst = Some worst }

-- with a graph by ride and its bounds
abbrev pub expand_findings : Query → Moment → ExpandedGraph → Interval → Findings
expand_findings q worst graph bounds = record no_findings { query = Some q; worst = Some worst; expanded = Some graph; bounds = Some bounds }

-- with a graph by place and its bounds
abbrev pub plan_findings : Query → Moment → PlanGraph → Interval → Findings
plan_findings q worst graph bounds = record no_findings { query = Some q; worst = Some worst; graph = Some graph; bounds = Some bounds }

-- with how many connections there are
abbrev pub sample_findings : Query → Moment → PlanGraph → Interval → ℕ → Findings
sample_findings query worst graph bounds connections = record (plan_findings query worst graph bounds) { connections = Some connections }

-- the query of a graph, the graph, and the trip by it
abbrev pub replay_findings : Query → PlanGraph → Trace → Findings
replay_findings q graph trace = record no_findings { query = Some q; graph = Some graph; trace = Some trace }

-- the query of a graph, the graph, and its bounds
abbrev pub score_findings : Query → PlanGraph → Interval → Findings
score_findings q graph bounds = record no_findings { query = Some q; graph = Some graph; bounds = Some bounds }

-- with a certificate
abbrev pub certify_findings : Query → Moment → LowerBounds → Findings
certify_findings q worst proof = record no_findings { query = Some q; worst = Some worst; proof = Some proof }

-- the query of a certificate, the certificate, and its least value at the start
abbrev pub check_findings : Query → LowerBounds → Option ℕ → Findings
check_findings q proof least = record no_findings { query = Some q; proof = Some proof; least = least }

-- with a graph by place, its bounds, and its chance of an arrival after a promised moment
abbrev pub punctual_findings : Query → Moment → PlanGraph → Interval → Interval → Findings
punctual_findings query worst graph bounds chance = record (plan_findings query worst graph bounds) { chance = Some chance }

-- the query with its deadline, and the departures
abbrev pub departures_findings : Query → List DepartureRow → Findings
departures_findings q rows = record no_findings { query = Some q; departures = Some rows }

-- the query with its deadline, and the latest moment
abbrev pub latest_findings : Query → Moment → Findings
latest_findings q moment = record no_findings { query = Some q; latest = Some moment }

-- the query with its deadline, whose source is of no account, and a row for each place from which one can reach its target
abbrev pub reach_findings : Query → List ReachRow → Findings
reach_findings q rows = record no_findings { query = Some q; reach = Some rows }
