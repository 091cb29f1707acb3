-- The answers about the departures of a journey, and about the latest moment at which one can leave.
use Rattle.std.specs.Prelude.{ℕ, List, [], ◌∷◌, length, ◌≡◌, ◌≢◌, ◌<◌, ◌≤◌, None, Some}
use Rattle.plan_model.specs.{declared.model.{ConnectionId.ConnectionId, Query.Query, Moment.Moment}, Network.NetworkModel, Order.IsScanOrder, Gates.extended_by}
use Rattle.plan_model.specs.{Tree.Tree, Strategy.IsSafeFor}
use Rattle.value_laws.specs.{declared.MeanSpan.MeanSpan, Means.mean_scoring}
use Rattle.meat_scan.specs.{Rules.FollowsRules, ScanResult.ScanResult}
use Rattle.departure_table.specs.{declared.DepartureRow.DepartureRow, Looked.{row_found, AreLooked}, Departures.{SafeFrom, IsTable, IsGreatestMoment}}
use Rattle.journey_model.specs.declared.{problem.Problem.Problem, faults.Fault.{Fault, TheVariants.NoSafe}}
use Rattle.decision_graph.specs.Planned.{IsNoneSafe}
use Rattle.printed_rows.specs.Records.{place_name}
use Rattle.journey_report.specs.{DepartureTexts.{departures_text, latest_text}, Findings.{Findings, departures_findings, latest_findings}}

-- what was found is what the rules keep in the scan order
pub record IsRuled (network : NetworkModel) (query : Query) (found : ScanResult MeanSpan) : Type 0 where
  pub order : List ConnectionId
  pub is_order : IsScanOrder network order
  pub rules : FollowsRules mean_scoring network query order found

-- the query from the place that is added to the network
abbrev pub added_query : NetworkModel → Query → Query
added_query network query = record { source = record { 0 = length network.change }; target = query.target; start = query.start; deadline = query.deadline }

-- the rows are those that the rules give in the network with a place more
pub record AreByRules (p : Problem) (query : Query) (last : ℕ) (rows : List DepartureRow) : Type 0 where
  pub found : ScanResult MeanSpan
  pub ruled : IsRuled (extended_by p.timetable.network (query.source ∷ [])) (added_query p.timetable.network query) found
  pub looked : AreLooked (row_found (extended_by p.timetable.network (query.source ∷ [])) (added_query p.timetable.network query) found) last query.start.0 rows

-- the query of a journey that starts then, with a deadline of its own
abbrev pub query_until : Problem → (start until : ℕ) → Query
query_until p start until = record { source = p.source; target = p.target; start = record { 0 = start }; deadline = record { 0 = until } }

-- the trees that are safe for a query, but that it starts at another moment
abbrev pub SafeOf : Problem → Query → ℕ → Tree → Type 0
SafeOf p query = SafeFrom p.timetable.network query.source.0 query

-- some tree is safe for the query
abbrev pub HasSafeFor : Problem → Query → Type 0
HasSafeFor p query = (tree : Tree) × IsSafeFor p.timetable.network query tree

-- the departures from the start of the query to a last moment, as the rules of the scan give them; none if source and target are one place
pub record AreDepartures (p : Problem) (query : Query) (last : ℕ) (rows : List DepartureRow) : Type 0 where
  pub at_once : query.source.0 ≡ query.target.0 → rows ≡ []
  pub table : query.source.0 ≢ query.target.0 → IsTable p.timetable.network (SafeOf p query) query.start.0 last rows
  pub by_rules : query.source.0 ≢ query.target.0 → AreByRules p query last rows

-- the answer of `departures`: the rows; some tree is safe from the first moment
abbrev pub AnswersDepartures : Problem → Query → ℕ → Findings → List ℕ → Type 0
AnswersDepartures p query last found text =
    (rows : List DepartureRow) × (found ≡ departures_findings query rows) × AreDepartures p query last rows × HasSafeFor p query
    × (text ≡ departures_text p.timetable.network p.timetable.names query last rows)

-- the answer of `latest`: the latest moment from which a tree is safe
abbrev pub AnswersLatest : Problem → Query → Findings → List ℕ → Type 0
AnswersLatest p query found text =
    (moment : Moment) × (found ≡ latest_findings query moment) × IsGreatestMoment (SafeOf p query) query.start.0 (Some moment)
    × (text ≡ latest_text (place_name p.timetable.names query.source.0) (place_name p.timetable.names query.target.0) query moment)

-- why there are no departures: no tree is safe from the first moment
abbrev pub FailsDepartures : Problem → Query → Fault → Type 0
FailsDepartures p query fault = (fault ≡ NoSafe) × IsNoneSafe p.timetable.network query

-- why there is no latest moment: no tree is safe from any moment on
abbrev pub FailsLatest : Problem → Query → Fault → Type 0
FailsLatest p query fault = (fault ≡ NoSafe) × IsGreatestMoment (SafeOf p query) query.start.0 None

-- its places are the network's, and its moments have texts
pub record IsUntil (p : Problem) (query : Query) : Type 0 where
  pub source : query.source.0 < length p.timetable.network.change
  pub target : query.target.0 < length p.timetable.network.change
  pub first : 1 ≤ query.start.0
  pub order : query.start.0 ≤ query.deadline.0
