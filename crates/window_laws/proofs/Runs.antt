-- The runs of a feed in a window are among those of one with more trips in a larger window.
use Rattle.std.proofs.{Common.{◌≡◌, ℕ, [], length, All, Contains, refl, sym, subst}, lemmas.{Bool.cond_both, List.Elements.{All-weaker, All-nil}}}
use Rattle.gtfs_tables.specs.{Feeds.FeedParts, Timed.rows_of}
use Rattle.service_days.specs.Services.{ServiceParts}
use Rattle.connections.specs.{Window.{window_of, day_at}, Steps.is_active_trip, TripRuns.{runs_of_trip, frequencies_of, trip_runs, window_runs, days}}
unfoldable use Rattle.connections.specs.TripRuns.{day_runs, runs_below}
use Rattle.window_laws.specs.MoreTrips.{HasTrips, IsTripOf}
use Rattle.window_laws.proofs.{Lists.{Has, has_joined}, Types.{Window, ServiceDay, Run}, Within.{IsWithin, SameRun, runs_too, same_day}}

-- a run of the one feed is one of the other: its trip is one there, and its times count from the same moment
pub record IsRunOf (less : FeedParts) (s : ServiceParts) (more : FeedParts) (t : ServiceParts) (a b : Run) : Type 0 where
  pub origin : b.origin ≡ a.origin
  pub trip : IsTripOf less s more t a.trip b.trip

module _ (start horizon at longer : ℕ) (within : IsWithin start horizon at longer) (less more : FeedParts) (s t : ServiceParts) (has : HasTrips less s more t) where
  abbrev w : Window
  w = window_of start horizon

  abbrev v : Window
  v = window_of at longer

  abbrev Beside : Run → Run → Type 0
  Beside = IsRunOf less s more t

  trip_too : (day : ServiceDay) (trip other : ℕ) → IsTripOf less s more t trip other → All (Has Beside (trip_runs more t v day other)) (trip_runs less s w day trip)
  trip_too day trip other is = cond_both (is_active_trip less s day trip) (runs_of_trip w (rows_of less trip) (frequencies_of less trip) day trip) []
      (All (Has Beside (trip_runs more t v day other)))
      (λ active.
      let too : All (Has (SameRun start horizon at longer within (rows_of less trip) day trip other) (runs_of_trip v (rows_of less trip) (frequencies_of more other) day other))
      (runs_of_trip w (rows_of less trip) (frequencies_of less trip) day trip)
      = runs_too start horizon at longer within (rows_of less trip) day trip other (frequencies_of less trip) (frequencies_of more other) is.repeats in
      let there : runs_of_trip v (rows_of less trip) (frequencies_of more other) day other ≡ trip_runs more t v day other = rw (is.active day.number active, is.rows) refl in
      All-weaker (Has (SameRun start horizon at longer within (rows_of less trip) day trip other) (runs_of_trip v (rows_of less trip) (frequencies_of more other) day other))
      (Has Beside (trip_runs more t v day other))
      (λ a found. (
        found.0,
        subst (λ runs. Contains runs found.0) there found.1,
        record {
          origin = found.2.0;
          trip = subst (λ (x : ℕ). IsTripOf less s more t a.trip x) (sym found.2.2) (subst (λ (x : ℕ). IsTripOf less s more t x other) (sym found.2.1) is);
        },
      )) (runs_of_trip w (rows_of less trip) (frequencies_of less trip) day trip) too)
      (λ none. All-nil (Has Beside (trip_runs more t v day other)))

  day_too : (day : ServiceDay) → All (Has Beside (day_runs more t v day (length more.trip_ids))) (day_runs less s w day (length less.trip_ids))
  unfolding day_runs
  day_too day = has_joined Beside (trip_runs less s w day) (trip_runs more t v day) (length less.trip_ids) (length more.trip_ids) (λ trip inside.
      let (other, is) = has trip inside in
      (other, is.inside, trip_too day trip other is))

  pub window_too : All (Has Beside (window_runs more t v)) (window_runs less s w)
  unfolding runs_below
  window_too = has_joined Beside (λ d. day_runs less s w (day_at w d) (length less.trip_ids)) (λ d. day_runs more t v (day_at v d) (length more.trip_ids)) days days
      (λ d inside. (
        d,
        inside,
        subst (λ (day : ServiceDay). All (Has Beside (day_runs more t v day (length more.trip_ids))) (day_runs less s w (day_at w d) (length less.trip_ids)))
            (same_day start horizon at longer within d) (day_too (day_at w d)),
      ))
