-- What comes of a ride, by what comes of those after it.
use Rattle.std.specs.Prelude.{◌≡◌, ℕ, ◌+◌, ◌-◌, Bool, All, List, [], ◌∷◌, Option, Some, None, ◌==◌, nat_le, nat_lt, ◌||◌, ◌&&◌, if◌then◌else◌, map}
use Rattle.std.specs.Prelude.{slice_index_or, Contains}
use Rattle.plan_model.specs.{declared.model.{Leg.Leg, Outcome.Outcome, Query.Query}, Network.{NetworkModel, count, to_of, arr_of, outcomes}, Unfold.by_place}
use Rattle.plan_model.specs.{Unfold.{ride_of, unfold_after}, Tree.Tree}
use Rattle.plan_graph.specs.{declared.{PlaceTable.PlaceTable, PlanGraph.PlanGraph}, Unfold.pick_at, Tidy.IsFitRow}
use Rattle.interval_fixed.specs.Interval.{Interval, mean_of}
use Rattle.graph_score.specs.{declared.outlooks.{Failure.Failure, Outlook.{Outlook, TheVariants.{Safe, Failing}}}, Legs.{exit_of, legs_of}, Scores.Fails}
use Rattle.graph_score.specs.Scores.{IsFirstFailure, exact, span_of}

-- a failure at a place at a moment
abbrev pub failure : (place moment : ℕ) → Failure
failure place moment = record { moment = record { 0 = moment }; place = record { 0 = place } }

-- whether one failure is before another
abbrev pub is_sooner : Failure → Failure → Bool
is_sooner a b = nat_lt a.moment.0 b.moment.0 || ((a.moment.0 == b.moment.0) && nat_lt a.place.0 b.place.0)

-- the sooner of two failures
abbrev pub sooner_failure : Option Failure → Failure → Failure
sooner_failure None b = b
sooner_failure (Some a) b = if is_sooner b a then b else a

-- with what comes of one more outcome
abbrev pub with_outlook : Option Failure → Outlook → Option Failure
with_outlook first (Safe span) = first
with_outlook first (Failing f) = Some (sooner_failure first f)

-- the first failure of these, or one before
abbrev pub first_failure_of : Option Failure → List Outlook → Option Failure
first_failure_of first [] = first
first_failure_of first (child ∷ kids) = first_failure_of (with_outlook first child) kids

-- the bounds of those that are safe
abbrev pub spans_in : List Outlook → List Interval
spans_in [] = []
spans_in (Safe span ∷ kids) = span ∷ spans_in kids
spans_in (Failing f ∷ kids) = spans_in kids

-- the first failure, or the mean
abbrev pub mean_or : List Outcome → List Outlook → Option Failure → Outlook
mean_or row kids (Some f) = Failing f
mean_or row kids None = Safe (mean_of row (spans_in kids))

abbrev pub blend_of : List Outcome → List Outlook → Outlook
blend_of row kids = mean_or row kids (first_failure_of None kids)

-- of who has arrived at the target
abbrev pub arrived_outlook : ℕ → ℕ → ℕ → Outlook
arrived_outlook deadline place moment = if nat_le moment deadline then Safe (exact moment) else Failing (failure place moment)

-- where nothing is known
abbrev pub no_outlook : Outlook
no_outlook = Failing (failure 0 0)

-- of the leg that is taken, by its exit; or stuck
abbrev pub by_leg : List Outlook → ℕ → ℕ → Option Leg → Outlook
by_leg outlooks place moment None = Failing (failure place moment)
by_leg outlooks place moment (Some leg) = slice_index_or outlooks leg.exit.0 no_outlook

-- after an arrival at a place
abbrev pub outlook_at : List PlaceTable → Query → List Outlook → ℕ → ℕ → Outlook
outlook_at tables query outlooks place moment =
    if place == query.target.0
    then arrived_outlook query.deadline.0 place moment
    else by_leg outlooks place moment (pick_at tables place moment)

-- after each outcome of a connection
abbrev pub outlooks_after : List PlaceTable → Query → List Outlook → ℕ → ℕ → List Outcome → List Outlook
outlooks_after tables query outlooks place scheduled row = map (λ o. outlook_at tables query outlooks place (scheduled + o.delay)) row

-- of leaving by a connection
abbrev pub outlook_of : NetworkModel → List PlaceTable → Query → List Outlook → ℕ → Outlook
outlook_of network tables query outlooks j = blend_of (outcomes network j) (outlooks_after tables query outlooks (to_of network j) (arr_of network j) (outcomes network j))

-- it says what comes of a tree: that the traveller cannot fail, with its bounds; or how one may fail first
abbrev pub IsOutlook : NetworkModel → Query → Outlook → Tree → Type 0
IsOutlook network query (Safe span) tree = ((p x : ℕ) → Fails query tree p x → ⊥) × (span ≡ span_of network tree)
IsOutlook network query (Failing f) tree = IsFirstFailure (Fails query tree) f.place.0 f.moment.0

-- each row fits
abbrev pub AreFitRows : NetworkModel → List PlaceTable → Type 0
AreFitRows network tables = All (λ table. All (IsFitRow network table.place.0) table.rows) tables

-- the ride of a leg, after which a traveller goes on by the rows of each place, over at most this many more rides
abbrev pub ride_by_rows : NetworkModel → Query → List PlaceTable → ℕ → Leg → Tree
ride_by_rows network query tables rides leg = ride_of network (unfold_after network query.target.0 (by_place network (pick_at tables)) rides) leg

-- it is known of each connection that a leg ends with what comes of leaving by it
abbrev pub AreOutlooks : NetworkModel → Query → PlanGraph → List Outlook → Type 0
AreOutlooks network query graph outlooks = (leg : Leg) → Contains (map exit_of (legs_of graph)) leg.exit
    → IsOutlook network query (slice_index_or outlooks leg.exit.0 no_outlook) (ride_by_rows network query graph.tables (count network - 1) leg)
