-- What a table of departures says, and what the greatest moment has to do with it and with the least worst arrival.
use Rattle.std.specs.Prelude.{◌≡◌, ◌≢◌, ℕ, ◌-◌, ◌<◌, ◌≤◌, ◌↔◌, List, [], Option, Some, MatchOption, All, AllPairs, find, length, nat_le, None, IsSome}
use Rattle.plan_model.specs.{declared.model.{Leg.Leg, Query.Query, Moment.Moment}, Bounds.nanos_per_second, Network.{NetworkModel, IsValid, count, from_of}}
use Rattle.plan_model.specs.{Network.dep_of, Ways.way_of, Tree.{Tree, Ride, Kids}, Expected.{Below, Covers, arrival}, Strategy.{IsLeg, IsSafeFromStart}}
use Rattle.plan_model.specs.{Strategy.IsLeastWorst, Gates.IsGate}
use Rattle.value_laws.specs.{Spans.{rounded_up, rounded_down}, declared.MeanSpan.MeanSpan, Means.mean_scoring}
use Rattle.meat_scan.specs.{ScanResult.{ScanResult, choice_of}, Solves.{SolvesEach, IsSafeAt}}
use Rattle.departure_table.specs.declared.DepartureRow.{DepartureRow}

-- each way from a place to where a connection can be boarded takes one second
abbrev pub IsASecondAway : NetworkModel → (place : ℕ) → Type 0
IsASecondAway network place = (i seconds : ℕ) → i < count network → way_of network place (from_of network i) ≡ Some seconds → seconds ≡ 1

-- what was found solves the query after each arrival at each place, wherever the query has its source
abbrev pub SolvesArrivals : ScanResult MeanSpan → NetworkModel → Query → Type 0
SolvesArrivals found network query =
    (place arrival : ℕ) → place ≢ query.target.0 →
    MatchOption (choice_of found place arrival)
    ((tree : Tree) → IsSafeAt network query place arrival tree → ⊥)
    (SolvesEach mean_scoring network query found place arrival)

-- the tree is safe for a traveller who has been at the source since a second before
abbrev pub SafeAfter : NetworkModel → Query → ℕ → Tree → Type 0
SafeAfter network query moment tree = IsSafeAt network query query.source.0 (moment - 1) tree

-- the tree is safe for a traveller who sets out at a moment or later at a place, with the target and the deadline of the query
abbrev pub SafeFrom : NetworkModel → ℕ → Query → ℕ → Tree → Type 0
SafeFrom m source query moment tree = IsSafeFromStart m query.target.0 (Some query.deadline.0) tree source moment

-- nothing is safe from a moment on
abbrev pub IsNoneSafeFrom : (ℕ → Tree → Type 0) → ℕ → Type 0
IsNoneSafeFrom Safe moment = (tree : Tree) → Safe moment tree → ⊥

-- the first thing to do by the tree is to ride the leg
abbrev pub BeginsWith : Leg → Tree → Type 0
BeginsWith leg tree = (kids : Kids) × (tree ≡ Ride leg.enter.0 leg.exit.0 kids)

-- the best of what is safe from a moment on begins with the row's leg: its lower bound is below all that is safe, and at most
-- that with each mean rounded down, ride by ride; the upper one covers one that begins with the leg, and is that rounded up: the least of all
pub record IsBestFrom (m : NetworkModel) (Safe : ℕ → Tree → Type 0) (moment : ℕ) (row : DepartureRow) : Type 0 where
  pub below_safe : (tree : Tree) → Safe moment tree → Below row.bounds.lo tree
  pub least : (tree : Tree) → Safe moment tree → row.bounds.lo ≤ rounded_down nanos_per_second arrival tree
  pub least_up : (tree : Tree) → Safe moment tree → row.bounds.hi ≤ rounded_up nanos_per_second arrival tree
  pub covers_one : (tree : Tree) × Safe moment tree × BeginsWith row.leg tree × Covers row.bounds.hi tree
      × (row.bounds.hi ≡ rounded_up nanos_per_second arrival tree)
  pub gap : row.bounds.hi - row.bounds.lo ≤ count m

-- the row's leg is one of the network, and departs by the row's moment
pub record IsDepartureRow (m : NetworkModel) (row : DepartureRow) : Type 0 where
  pub is_leg : IsLeg m row.leg.enter.0 row.leg.exit.0
  pub departs : row.by.0 ≡ dep_of m row.leg.enter.0

-- the first row by a moment or later
abbrev pub first_row_by : ℕ → List DepartureRow → Option DepartureRow
first_row_by moment rows = find (λ row. nat_le moment row.by.0) rows

-- the best of what is safe from each moment on, from a first to a last one: the first row by the moment or later; none exactly if nothing is safe.
-- moments rise, and only the last row may be by the last moment or later
pub record IsTable (m : NetworkModel) (Safe : ℕ → Tree → Type 0) (first last : ℕ) (rows : List DepartureRow) : Type 0 where
  pub answers : (moment : ℕ) → first ≤ moment → moment ≤ last → MatchOption (first_row_by moment rows) (IsNoneSafeFrom Safe moment) (IsBestFrom m Safe moment)
  pub departures : All (IsDepartureRow m) rows
  pub from_first : All (λ row. first ≤ row.by.0) rows
  pub rising : AllPairs (λ a b. (a.by.0 < b.by.0) × (a.by.0 < last)) rows

-- the latest moment from a first one on from which something is safe; none if there is none
abbrev pub IsGreatestMoment : (ℕ → Tree → Type 0) → ℕ → Option Moment → Type 0
IsGreatestMoment Safe first result =
    MatchOption result
    ((moment : ℕ) → first ≤ moment → IsNoneSafeFrom Safe moment)
    (λ greatest. (first ≤ greatest.0) × ((tree : Tree) × Safe greatest.0 tree) × ((moment : ℕ) → greatest.0 < moment → IsNoneSafeFrom Safe moment))

-- the query has its source at a gate of the network, which leads to another place of m than the target
pub record IsExtendedFor (network : NetworkModel) (query : Query) (m : NetworkModel) (source : ℕ) : Type 0 where
  pub gate : IsGate network m query.source.0 source
  pub valid : IsValid m
  pub target_there : query.target.0 < length m.change
  pub away : source ≢ query.target.0

-- what the table and the greatest moment say of the extended network, they say of the network itself; the table is empty exactly if
-- nothing is safe from the first moment on
pub record SaysOfSource (network : NetworkModel) (query : Query) (m : NetworkModel) (source : ℕ) : Type 0 where
  pub second : IsASecondAway network query.source.0
  pub tables : (first last : ℕ) (rows : List DepartureRow) → 1 ≤ first → IsTable network (SafeAfter network query) first last rows → IsTable m (SafeFrom m source query) first last rows
  pub empty_exactly : (first last : ℕ) (rows : List DepartureRow) → 1 ≤ first → first ≤ last → IsTable network (SafeAfter network query) first last rows →
      (rows ≡ []) ↔ IsNoneSafeFrom (SafeFrom m source query) first
  pub greatest : (first : ℕ) (result : Option Moment) → 1 ≤ first → IsGreatestMoment (SafeAfter network query) first result → IsGreatestMoment (SafeFrom m source query) first result

-- no row is by a later moment, and one is by this moment, if the table goes on so far
pub record IsOfLastRow (last : ℕ) (rows : List DepartureRow) (greatest : Moment) : Type 0 where
  pub each : All (λ row. row.by.0 ≤ greatest.0) rows
  pub one : greatest.0 ≤ last → (row : DepartureRow) × (first_row_by greatest.0 rows ≡ Some row) × (row.by.0 ≡ greatest.0)

-- there is a greatest moment from a first one on exactly if the least worst arrival from the first one is by the deadline; from
-- the greatest moment the least worst arrival is by the deadline, and from each later one after it
pub record AgreesWithLeastWorst (network : NetworkModel) (source : ℕ) (query : Query) (first : ℕ) : Type 0 where
  pub in_time : (worst : Moment) (result : Option Moment) → IsLeastWorst network source query.target.0 first (Some worst)
      → IsGreatestMoment (SafeFrom network source query) first result → worst.0 ≤ query.deadline.0 → IsSome result
  pub too_late : (worst : Moment) (result : Option Moment) → IsLeastWorst network source query.target.0 first (Some worst)
      → IsGreatestMoment (SafeFrom network source query) first result → query.deadline.0 < worst.0 → result ≡ None
  pub at : (greatest worst : Moment) → IsGreatestMoment (SafeFrom network source query) first (Some greatest)
      → IsLeastWorst network source query.target.0 greatest.0 (Some worst) → worst.0 ≤ query.deadline.0
  pub past : (moment : ℕ) (greatest worst : Moment) → IsGreatestMoment (SafeFrom network source query) first (Some greatest) → greatest.0 < moment
      → IsLeastWorst network source query.target.0 moment (Some worst) → query.deadline.0 < worst.0
