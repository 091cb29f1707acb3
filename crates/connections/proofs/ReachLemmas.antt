-- Trips that do not depart in a window, by their first and their last departure.
use Rattle.connections.proofs.Common.{◌≡◌, ℕ, zero, suc, ◌+◌, ◌-◌, ◌<◌, ◌≤◌, Bool, true, false, List, [], length, arith, ap, refl, inl, inr, ℤ, pos, ◌<ℤ◌, nat_lt, if◌then◌else◌, cases_eq}
use Rattle.connections.proofs.Common.{nat_tests, ints, end_of_times, StopRow, FrequencyRow, FeedParts, AreTimed, rows_of, kept_at, ServiceParts, Origin, Window, ServiceDay, moment_of}
use Rattle.connections.proofs.Common.{origin_of_day, holds, DepartInOrder, DepartOnDay, departs, has_connection, steps_of, frequencies_of, runs_of_trip, day_runs, AreOverBy, NoneRuns}
use Rattle.connections.proofs.{JoinLemmas.join-none, StepLemmas.{some_step, steps_none}}

-- times do not go back over several rows
pub onward_to : (rows : List StopRow) (places : ℕ) → AreTimed rows places → (p m : ℕ) → p + suc m < length rows → (kept_at rows (p + 1)).arrival ≤ (kept_at rows (p + suc m)).departure
onward_to rows places t p zero h = grind arith
onward_to rows places t p (suc m) h = grind (arith, onward_to rows places t p m (omega arith))

-- the departures of a trip
pub departures_are : (rows : List StopRow) (places : ℕ) → AreTimed rows places → DepartOnDay rows
departures_are rows places timed = record {
  ordered = λ i j ordered within. elim (cases_eq i j) [
    | inl same ↦ omega (arith, ap (λ k. (kept_at rows k).departure) same)
    | inr other ↦
        let between = j - i - 1 in
        let e : i + suc between ≡ j = omega arith in
        omega (arith, timed.onward i (omega arith), onward_to rows places timed i between (omega arith), ap (λ k. (kept_at rows k).departure) e)
  ];
  early = timed.early;
}

holds_late : (w : Window) (moment : ℤ) → pos w.end <ℤ moment → holds w moment ≡ false
holds_late w moment late = grind (arith, ints)

holds_early : (w : Window) (moment : ℤ) → moment <ℤ pos w.start → holds w moment ≡ false
holds_early w moment early = grind (arith, ints)

module _ (w : Window) (rows : List StopRow) (o : Origin) where
  -- where there is no connection at all
  pub none_at_all : length rows - 1 ≡ 0 → steps_of w rows o ≡ []
  none_at_all none = steps_none w rows o (length rows - 1) (λ k less. absurd (omega arith))

  -- where the first connection is late
  pub none_late : DepartInOrder rows → pos w.end <ℤ departs rows o 0 → steps_of w rows o ≡ []
  none_late ordered late = steps_none w rows o (length rows - 1) (λ k less. holds_late w (departs rows o k) (omega (
    arith,
    ints,
    late,
    ordered 0 k
        (omega arith) (omega arith),
  )))

  -- where the last connection is early
  pub none_early : DepartInOrder rows → departs rows o (length rows - 1 - 1) <ℤ pos w.start → steps_of w rows o ≡ []
  none_early ordered early =
      steps_none w rows o (length rows - 1) (λ k less. holds_early w (departs rows o k) (omega (
        arith,
        ints,
        early,
        ordered k (length rows - 1 - 1)
            (omega arith) (omega arith),
      )))

  -- where even the end of times is early
  pub none_early_all : ((k : ℕ) → k < length rows → (kept_at rows k).departure < end_of_times) → moment_of o end_of_times <ℤ pos w.start
      → steps_of w rows o ≡ []
  none_early_all few early = grind (arith, steps_none, holds_early, ints)

  -- where the service day begins late
  pub none_late_all : pos w.end <ℤ moment_of o 0 → steps_of w rows o ≡ []
  none_late_all late = steps_none w rows o (length rows - 1) (λ k less. holds_late w (departs rows o k) (omega (arith, ints, late)))

  -- where even a second after which no kept row is left is early
  pub none_after : (latest : ℕ) → ((k : ℕ) → k < length rows → (kept_at rows k).departure ≤ latest) → moment_of o latest <ℤ pos w.start
      → steps_of w rows o ≡ []
  none_after latest over early = grind (arith, steps_none, holds_early, ints)

  pub has_connection_true : (k : ℕ) → k < length rows - 1 → holds w (departs rows o k) ≡ true → true ≡ has_connection w rows o
  has_connection_true k h t = let some = some_step w rows o (length rows - 1) k h t in grind (arith, nat_tests)

  pub has_connection_false : steps_of w rows o ≡ [] → false ≡ has_connection w rows o
  has_connection_false none = rw none refl

runs_none : (w : Window) (rows : List StopRow) (day : ServiceDay) (trip : ℕ) (fs : List FrequencyRow) → fs ≡ [] → steps_of w rows (origin_of_day day) ≡ []
    → runs_of_trip w rows fs day trip ≡ []
runs_none w rows day trip fs once none = grind (arith, nat_lt)

where_none : {A : Type 0} (active : Bool) (xs : List A) → xs ≡ [] → (if active then xs else []) ≡ []
where_none active xs h = grind arith

-- on a day on which no trip departs there is no run
pub day_runs-none : (f : FeedParts) (s : ServiceParts) (w : Window) (day : ServiceDay) → NoneRuns f w day → day_runs f s w day (length f.trip_ids) ≡ []
unfolding day_runs
day_runs-none f s w day none = grind (arith, join-none, where_none, runs_none)

-- one more trip that does not repeat
pub over-next : (f : FeedParts) (n latest last most : ℕ) → AreOverBy f n latest → frequencies_of f n ≡ []
    → ((k : ℕ) → k < length (rows_of f n) → (kept_at (rows_of f n) k).departure ≤ last) → latest ≤ most → last ≤ most → AreOverBy f (n + 1) most
over-next f n latest last most before once here low high = grind (arith, cases_eq)

module _ (f : FeedParts) (w : Window) (day : ServiceDay) (latest : ℕ) (over : AreOverBy f (length f.trip_ids) latest) where
  pub none_run_late : pos w.end <ℤ moment_of (origin_of_day day) 0 → NoneRuns f w day
  none_run_late late = grind (arith, none_late_all)

  pub none_run_early : moment_of (origin_of_day day) latest <ℤ pos w.start → NoneRuns f w day
  none_run_early early = grind (arith, none_after)
