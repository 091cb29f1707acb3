-- The printed texts of the answers that are no graphs.
use Rattle.std.specs.Prelude.{ℕ, ◌+◌, List, [], ◌∷◌, ◌++◌, length, codes, decimal, sum_by, Option, Some, None}
use Rattle.clock_text.specs.Civil.{moment_text, nanos_text}
use Rattle.plan_model.specs.{declared.model.{Leg.Leg, Moment.Moment, Query.Query}, Network.{NetworkModel, run_of, from_of, to_of, dep_of, arr_of}}
use Rattle.plan_model.specs.NameLists.{NameLists}
use Rattle.interval_fixed.specs.Interval.{Interval}
use Rattle.plan_graph.specs.declared.PlanGraph.{PlanGraph}
use Rattle.printed_rows.specs.Records.{row_of_fields, place_name, run_name}
use Rattle.trip_replay.specs.declared.{Ridden.Ridden, Trace.Trace}
use Rattle.late_chance.specs.Chances.{chance_text}

-- one row: the source, the target, the start, the least worst arrival and the deadline
unfoldable pub safe_text : List ℕ → List ℕ → Query → Moment → List ℕ
safe_text source target query worst =
    row_of_fields (codes "safe" ∷ source ∷ target ∷ moment_text query.start.0 ∷ moment_text worst.0 ∷ moment_text query.deadline.0 ∷ [])

-- the row of a ride: its run, entry place, departure, exit place, scheduled arrival, delay in seconds and arrival
unfoldable pub ride_text : NetworkModel → NameLists → Ridden → List ℕ
ride_text network names r =
    row_of_fields
    (codes "ride"
    ∷ run_name names (run_of network r.leg.enter.0)
    ∷ place_name names (from_of network r.leg.enter.0)
    ∷ moment_text (dep_of network r.leg.enter.0)
    ∷ place_name names (to_of network r.leg.exit.0)
    ∷ moment_text (arr_of network r.leg.exit.0)
    ∷ decimal r.delay
    ∷ moment_text r.arrival.0
    ∷ [])

abbrev pub rides_text : NetworkModel → NameLists → List Ridden → List ℕ
rides_text network names [] = []
rides_text network names (r ∷ rides) = ride_text network names r ++ rides_text network names rides

-- the row of the arrival at the target
unfoldable pub arrived_text : List ℕ → Moment → List ℕ
arrived_text target arrival = row_of_fields (codes "arrived" ∷ target ∷ moment_text arrival.0 ∷ [])

-- a row for each ride, and then the arrival at the target
abbrev pub trace_text : NetworkModel → NameLists → ℕ → Trace → List ℕ
trace_text network names target trace = rides_text network names trace.rides ++ arrived_text (place_name names target) trace.arrival

abbrev pub start_count : Option Leg → ℕ
start_count None = 0
start_count (Some leg) = 1

-- how many legs a graph has: the start leg and the rows of its tables
abbrev pub leg_count : PlanGraph → ℕ
leg_count graph = start_count graph.start + sum_by (λ table. length table.rows) graph.tables

-- one row: the size, how many connections the window has, how many legs the graph has, and the two bounds
unfoldable pub sample_text : (size connections legs : ℕ) → Interval → List ℕ
sample_text size connections legs bounds =
    row_of_fields (codes "sample" ∷ decimal size ∷ decimal connections ∷ decimal legs ∷ nanos_text bounds.lo ∷ nanos_text bounds.hi ∷ [])

-- the least value of a certificate, where it has one
abbrev pub least_text : Option ℕ → List ℕ
least_text None = codes "none"
least_text (Some value) = nanos_text value

-- one row: the source, the target, the start, the deadline and the least value
unfoldable pub holds_text : List ℕ → List ℕ → Query → Option ℕ → List ℕ
holds_text source target query least =
    row_of_fields
    (codes "holds" ∷ source ∷ target ∷ moment_text query.start.0 ∷ moment_text query.deadline.0 ∷ least_text least ∷ [])

-- one row: the source, the target, the start, the deadline and the two bounds
unfoldable pub encloses_text : List ℕ → List ℕ → Query → Interval → List ℕ
encloses_text source target query bounds =
    row_of_fields
    (codes "encloses" ∷ source ∷ target ∷ moment_text query.start.0 ∷ moment_text query.deadline.0 ∷ nanos_text bounds.lo ∷ nanos_text bounds.hi ∷ [])

-- one row: the version of the text, the promised moment, and the bounds of the chance
unfoldable pub punctual_row : (promise : ℕ) → Interval → List ℕ
punctual_row promise chance =
    row_of_fields (codes "punctual" ∷ codes "1" ∷ moment_text promise ∷ chance_text chance.lo ∷ chance_text chance.hi ∷ [])
