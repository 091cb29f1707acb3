-- The connections of a feed in a window are among those of one with more trips in a larger window.
use Rattle.std.proofs.{Common.{◌≡◌, ℕ, [], ◌<◌, ◌≤◌, Option, List, length, map, All, Contains, inl, inr, refl, sym, ap, ◌∙◌, subst, arith, slice_index_or}, lemmas.Bool.cases_lt}
use Rattle.std.proofs.lemmas.List.{get_or_default, Elements.{All-weaker, All-map}}
use Rattle.plan_model.proofs.Lists.{Contains-map}
use Rattle.plan_model.specs.{declared.model.{Moment.Moment, Way.Way}, Strategy.IsLeastWorst, Network.{NetworkModel, IsValid}}
use Rattle.stop_times.specs.declared.rows.StopRow.{StopRow}
use Rattle.gtfs_tables.specs.{Feeds.FeedParts, Timed.rows_of}
use Rattle.service_days.specs.Services.{ServiceParts}
use Rattle.change_times.specs.Changes.{place_seconds, links_of}
use Rattle.delay_table.specs.DelayLists.{DelayLists}
use Rattle.connections.specs.{Window.window_of, Steps.steps_of, TripRuns.{run_at, no_run, window_runs}, FeedNetworks.{connection_from, class_of_trip, connections_in}}
use Rattle.connections.proofs.JoinLemmas.{All-join, Contains-join}
unfoldable use Rattle.connections.specs.FeedNetworks.{connections_below, run_connections}
use Rattle.service_laws.specs.{Changed.{own, renamed, AreAmong, AreShorter, AreNoFewer, with_connections, with_changes, with_links}, Embeds.{EmbedsAlike, IsNoLaterThan, IsSafeToo, IsNoWorse}}
use Rattle.service_laws.specs.Embeds.{IsAsGood}
use Rattle.service_laws.proofs.{Changes.{connections_alike, changes_alike, links_alike, alike_no_later, no_later_embeds}, Compose.alike_twice, Found.{safe_as_good, safe_no_worse, least_no_later}}
use Rattle.csv_rows.proofs.ListLemmas.{length-list_below, get-list_below}
unfoldable use Rattle.plan_model.specs.Network.{connection, change_of, row_of}
use Rattle.window_laws.specs.MoreTrips.{HasTrips, HasLinks, IsTripOf, Timetable, IsPartOf, IsNetworkOf}
use Rattle.window_laws.proofs.{Lists.Has, Types.{Window, Origin, Run}, Within.{IsWithin, steps_too}, Runs.{IsRunOf, window_too}}

module _ (start horizon at longer : ℕ) (within : IsWithin start horizon at longer) where
  abbrev w : Window
  w = window_of start horizon

  abbrev v : Window
  v = window_of at longer

  -- the connections of a run from these kept rows
  legs_too : (rows : List StopRow) (o : Origin) (number : ℕ) (class : ℕ → ℕ)
      → All (λ k. Contains (map (connection_from rows o number class) (steps_of v rows o)) (connection_from rows o number class k)) (steps_of w rows o)
  legs_too rows o number class = All-weaker (Has (λ (k : ℕ) l. k ≡ l) (steps_of v rows o)) (λ k. Contains (map (connection_from rows o number class) (steps_of v rows o)) (connection_from rows o number class k))
      (λ k has. Contains-map (connection_from rows o number class) (steps_of v rows o) k (subst (Contains (steps_of v rows o)) (sym has.2) has.1))
      (steps_of w rows o) (steps_too start horizon at longer within rows o)

  legs_there : (rows others : List StopRow) (o p : Origin) (number : ℕ) (class classes : ℕ → ℕ) → others ≡ rows → p ≡ o → classes ≡ class
      → All (λ k. Contains (map (connection_from others p number classes) (steps_of v others p)) (connection_from rows o number class k)) (steps_of w rows o)
  legs_there rows others o p number class classes same from by = rw (same, from, by) (legs_too rows o number class)

  module _ (less more : FeedParts) (s t : ServiceParts) (d : DelayLists) (has : HasTrips less s more t) where
    abbrev runs : List Run
    runs = window_runs less s w

    abbrev others : List Run
    others = window_runs more t v

    -- the run that it is
    pick : (r : ℕ) → (q : ℕ) × (r < length runs → (q < length others) × IsRunOf less s more t (run_at runs r) (run_at others q))
    pick r = elim (cases_lt r (length runs)) [
      | inl there ↦
          let found = window_too start horizon at longer within less more s t has r no_run there in
          let same : run_at others found.1.0 ≡ found.0 = get_or_default others found.1.0 no_run found.0 found.1.1 ∙ found.1.2 in
          (found.1.0, λ h. (found.1.1, subst (IsRunOf less s more t (run_at runs r)) (sym same) found.2))
      | inr past ↦ (0, λ h. absurd (omega (arith, h, past)))
    ]

    abbrev number : ℕ → ℕ
    number r = (pick r).0

    same_class : (trip other : ℕ) → IsTripOf less s more t trip other → class_of_trip more d other ≡ class_of_trip less d trip
    same_class trip other is = grind arith

    run_there : (r : ℕ) → r < length runs → All (λ c. Contains (run_connections more d v others (number r)) (renamed number c)) (run_connections less d w runs r)
    unfolding run_connections
    run_there r inside =
        let a = run_at runs r in
        let b = run_at others (number r) in
        let is = ((pick r).1 inside).1 in
        All-map (λ c. Contains (map (connection_from (rows_of more b.trip) b.origin (number r) (class_of_trip more d b.trip)) (steps_of v (rows_of more b.trip) b.origin)) (renamed number c))
        (connection_from (rows_of less a.trip) a.origin r (class_of_trip less d a.trip)) (steps_of w (rows_of less a.trip) a.origin)
        (legs_there (rows_of less a.trip) (rows_of more b.trip) a.origin b.origin (number r) (class_of_trip less d a.trip) (class_of_trip more d b.trip)
        is.trip.rows is.origin (same_class a.trip b.trip is.trip))

    pub among : (numbers : ℕ → ℕ) × All (λ c. Contains (connections_in more t d v) (renamed numbers c)) (connections_in less s d w)
    unfolding connections_below
    among = (
      number,
      All-join (λ c. Contains (connections_in more t d v) (renamed number c)) (run_connections less d w runs) (length runs) (λ r inside.
          All-weaker (λ c. Contains (run_connections more d v others (number r)) (renamed number c)) (λ c. Contains (connections_in more t d v) (renamed number c))
          (λ c found. Contains-join (run_connections more d v others) (length others) (number r) (renamed number c) ((pick r).1 inside).0 found)
          (run_connections less d w runs r) (run_there r inside)),
    )

within_both : (less more : Timetable) → IsPartOf less more → IsWithin less.start less.horizon more.start more.horizon
within_both less more part = record { date = sym part.date; from = part.from; to = part.to }

module _ (less more : Timetable) (part : IsPartOf less more) (d : DelayLists) (small large : NetworkModel) (is : IsNetworkOf less d small) (are : IsNetworkOf more d large) where
  abbrev places : ℕ
  places = length less.parts.feed.stop_ids

  size : length large.change ≡ length small.change
  size = grind (arith, length-list_below)

  inside_of : (place : ℕ) → place < length small.change → place < places
  inside_of place h = omega (arith, h, ap length is.is.change_of_places, length-list_below (place_seconds less.parts.changes) places)

  -- with the shorter changes
  abbrev shorter : NetworkModel
  shorter = with_changes small large.change

  are_shorter : AreShorter small large.change
  unfolding change_of
  are_shorter place h =
      let within = inside_of place h in
      grind (arith, get-list_below)

  shorter_valid : IsValid shorter
  unfolding connection change_of row_of
  shorter_valid = grind (arith, size)

  -- and with the links
  abbrev linked : NetworkModel
  linked = with_links shorter large.links

  no_fewer : AreNoFewer shorter large.links
  no_fewer place h =
      let within = inside_of place (omega (arith, h, size)) in
      let before : slice_index_or small.links place [] ≡ links_of less.parts.changes place =
      ap (λ xs. slice_index_or xs place []) is.is.links_of_places ∙ get-list_below (links_of less.parts.changes) places place [] within in
      let after : slice_index_or large.links place [] ≡ links_of more.parts.changes place =
      ap (λ xs. slice_index_or xs place []) are.is.links_of_places
      ∙ get-list_below (links_of more.parts.changes) (length more.parts.feed.stop_ids) place [] (omega (arith, within, part.all.places)) in
      subst (λ (links : List Way). HasLinks links (slice_index_or large.links place [])) (sym before)
      (subst (HasLinks (links_of less.parts.changes place)) (sym after) (part.all.links place within))

  pub more_alike : (image : ℕ → ℕ) × EmbedsAlike small large image own
  more_alike =
      let found = among less.start less.horizon more.start more.horizon (within_both less more part) less.parts.feed more.parts.feed less.parts.services more.parts.services d part.all.trips in
      let all : AreAmong linked found.0 large.connections = rw (is.is.connections, are.is.connections) found.1 in
      let classes : small.classes ≡ large.classes = is.is.classes_of_delays ∙ sym are.is.classes_of_delays in
      let same : with_connections linked large.connections ≡ large = rw classes refl in
      let last : (image : ℕ → ℕ) × EmbedsAlike linked large image own =
      subst (λ (n : NetworkModel). (image : ℕ → ℕ) × EmbedsAlike linked n image own) same (connections_alike linked found.0 large.connections all) in
      let one = changes_alike small is.valid large.change are_shorter in
      let two = links_alike shorter shorter_valid large.links are.valid.links no_fewer in
      (last.0, alike_twice small linked large own last.0 own own (alike_twice small shorter linked own own own own one two) last.1)

  pub as_good : IsSafeToo IsAsGood (λ a b. a ≡ b) small large own
  as_good = safe_as_good small large more_alike.0 own more_alike.1

  pub no_worse : IsSafeToo IsNoWorse (λ a b. a ≤ b) small large own
  no_worse = safe_no_worse small large more_alike.0 own (alike_no_later small large more_alike.0 own more_alike.1)

  pub no_later : (source target begin before : ℕ) (least other : Option Moment) → before ≤ begin → IsLeastWorst small source target begin least
      → IsLeastWorst large source target before other → IsNoLaterThan other least
  no_later source target begin before least other =
      least_no_later small large more_alike.0 own
      (no_later_embeds small large more_alike.0 own (alike_no_later small large more_alike.0 own more_alike.1)) source target begin before least other
