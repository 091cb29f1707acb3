-- The runs that depart in a window, by service day, position of the trip, and how they start.
use Rattle.connections.proofs.Common.{◌≡◌, ℕ, ◌<ℤ◌, ◌<◌, ◌⊎◌, inl, inr, Bool, List, [], ◌∷◌, length, map, All, refl, sym, ◌∙◌, subst, arith, ⊎_elim, if◌then◌else◌, AllPairs, ltb-true, ints}
use Rattle.connections.proofs.Common.{All-weaker, All-nil, All-get_or, All-map, same_Some, FrequencyRow, StopRow, FeedParts, AreRepeats, AreRepeating, rows_of, ServiceParts, ServiceDay, Repeat}
use Rattle.connections.proofs.Common.{Run, Window, join_below, only_if, origin_of_day, day_at, IsWindow, is_active_trip, has_connection, steps_of, rows_repeats, in_order, frequencies_of, own_run}
use Rattle.connections.proofs.Common.{repeat_run, runs_of_trip, trip_runs, day_runs, runs_below, window_runs, no_run, run_steps, days, IsRunOfFeed, AreRunsOf, HaveConnections, AllPairs-map}
use Rattle.connections.proofs.{Common.AllPairs-nil, JoinLemmas.{All-join, AllPairs-join, All-only_if, AllPairs-only_if}, OrderLemmas.{All-in_order, pairs_in_order}, RepeatLemmas.row_repeats_all}
use Rattle.connections.proofs.RepeatLemmas.{rows_repeats_all, rows_repeats_pairs}

-- by day, then by trip, and of one trip and day apart by how they start
abbrev pub Precedes : Run → Run → Type 0
Precedes a b = (a.origin.day.number <ℤ b.origin.day.number) ⊎ ((a.origin.day.number ≡ b.origin.day.number) × ((a.trip < b.trip) ⊎ (a.repeat ≡ b.repeat → ⊥)))

-- a run of this trip on this day, with a connection in the window
pub record IsTripRun (w : Window) (rows : List StopRow) (day : ServiceDay) (trip : ℕ) (run : Run) : Type 0 where
  pub same : run.origin.day.number ≡ day.number
  pub trip_is : run.trip ≡ trip
  pub some : 0 < length (steps_of w rows run.origin)

module _ (w : Window) (rows : List StopRow) (day : ServiceDay) (trip : ℕ) where
  pub record AreTripRuns (rs : List Run) : Type 0 where
    pub each : All (IsTripRun w rows day trip) rs
    pub order : AllPairs Precedes rs

  own_run_is : AreTripRuns (only_if (has_connection w rows (origin_of_day day)) (own_run day trip))
  own_run_is = grind (arith, All-only_if, ltb-true, AllPairs-only_if)

  repeat_runs_are : (fs : List FrequencyRow) → AreRepeats fs → AreTripRuns (map (repeat_run rows day trip) (in_order (rows_repeats w rows day fs)))
  repeat_runs_are fs are =
      let f = repeat_run rows day trip in
      let P : Repeat → Type 0 = λ r. IsTripRun w rows day trip (f r) in
      let all : All P (in_order (rows_repeats w rows day fs)) = All-in_order P (rows_repeats w rows day fs) (rows_repeats_all w rows day P fs
      (λ i l. row_repeats_all w rows day P _ (λ m run h.
      record { same = refl; trip_is = refl; some = ltb-true 0 _ h }))) in
      let apart = pairs_in_order (rows_repeats w rows day fs) (rows_repeats_pairs w rows day fs are) in
      record {
        each = All-map (IsTripRun w rows day trip) f (in_order (rows_repeats w rows day fs)) all;
        order = AllPairs-map f Precedes (in_order (rows_repeats w rows day fs)) (λ i j d l h. inr (refl, inr (λ e. apart i j d l h (same_Some _ _ e))));
      }

  pub trip_runs_are : (fs : List FrequencyRow) → AreRepeats fs → AreTripRuns (runs_of_trip w rows fs day trip)
  trip_runs_are [] are = own_run_is
  trip_runs_are (row ∷ more) are = repeat_runs_are (row ∷ more) are

  pub runs_where : (active : Bool) (rs : List Run) → AreTripRuns rs → AreTripRuns (if active then rs else [])
  runs_where active rs a = grind (arith, All-nil, AllPairs-nil)

module _ (f : FeedParts) (s : ServiceParts) (w : Window) (repeats : AreRepeating f) where
  -- a run of this day, with a connection in the window
  pub record IsRunOn (day : ServiceDay) (run : Run) : Type 0 where
    pub same : run.origin.day.number ≡ day.number
    pub trip : run.trip < length f.trip_ids
    pub some : 0 < length (run_steps f w run)

  of_trip : (day : ServiceDay) (trip : ℕ) → trip < length f.trip_ids → AreTripRuns w (rows_of f trip) day trip (trip_runs f s w day trip)
  of_trip day trip h = runs_where w (rows_of f trip) day trip (is_active_trip f s day trip) _ (trip_runs_are w (rows_of f trip) day trip
      (frequencies_of f trip) (repeats trip h))

  of_day : (day : ServiceDay) → All (IsRunOn day) (day_runs f s w day (length f.trip_ids)) × AllPairs Precedes (day_runs f s w day (length f.trip_ids))
  unfolding day_runs
  of_day day = (
    All-join (IsRunOn day) (trip_runs f s w day) (length f.trip_ids) (λ trip h. All-weaker (IsTripRun w (rows_of f trip) day trip) (IsRunOn day) (λ run r. record {
      same = r.same;
      trip = omega (arith, r.trip_is, h);
      some = let P : ℕ → Type 0 = λ k. 0 < length (steps_of w (rows_of f k) run.origin) in subst P (sym r.trip_is) r.some;
    }) (trip_runs f s w day trip) (of_trip day trip h).each),
    AllPairs-join Precedes (λ trip. IsTripRun w (rows_of f trip) day trip) (trip_runs f s w day) (length f.trip_ids) (λ trip h. (of_trip day trip h).each)
        (λ trip h. (of_trip day trip h).order) (λ i j x y l h a b. inr (a.same ∙ sym b.same, inl (omega (arith, l, a.trip_is, b.trip_is)))),
  )

  -- the runs of a window
  pub runs_are : IsWindow w → (rs : List Run) → rs ≡ window_runs f s w → AreRunsOf f rs × HaveConnections f w rs
  unfolding runs_below
  runs_are v rs e =
      let P : List Run → Type 0 = λ xs. AreRunsOf f xs × HaveConnections f w xs in
      let Q : Run → Type 0 = λ run. IsRunOfFeed f run × (0 < length (run_steps f w run)) in
      let of : ℕ → List Run = λ d. day_runs f s w (day_at w d) (length f.trip_ids) in
      let all = All-join Q of days (λ d h. All-weaker (IsRunOn (day_at w d)) Q (λ run r.
      (record { trip = r.trip; day = record { from = omega (arith, ints, r.same, v.early); to = omega (arith, ints, r.same, h, v.late) } }, r.some)) (of d)
      (of_day (day_at w d)).0) in
      let order = AllPairs-join Precedes (λ d. IsRunOn (day_at w d)) of days (λ d h. (of_day (day_at w d)).0) (λ d h. (of_day (day_at w d)).1)
      (λ i j x y l h a b.
      inl (omega (arith, ints, a.same, b.same, l))) in
      subst P (sym e) (
        record {
          each = λ r h. (All-get_or Q (join_below of days) r no_run h all).0;
          apart = λ i j l h same same' same''.
              ⊎_elim (λ x. omega (arith, ints, x, same)) (λ x. ⊎_elim (λ y. omega (arith, y, same')) (λ y. y same'') x.1) (order i j no_run l h);
        },
        λ r h. (All-get_or Q (join_below of days) r no_run h all).1,
      )
