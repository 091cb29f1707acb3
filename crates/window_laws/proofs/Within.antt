-- The runs of a window are among those of a larger one.
use Rattle.std.proofs.Common.{◌≡◌, ℕ, ℤ, pos, ◌-◌, ◌+◌, ◌*◌, ◌/◌, ◌≤◌, true, int_le, List, [], ◌∷◌, length, All, Contains, refl, sym, ap, subst, arith, inl, inr, ltb-true, lt-ltb, ◌∙◌}
use Rattle.std.proofs.lemmas.{Bool.{and_parts, and_from, cond_both}, List.{get_or_default, Elements.All-weaker}, Int.ints}
use Rattle.plan_model.proofs.Lists.{Contains-cons_cases, Contains-head, Contains-nil, Contains-tail}
use Rattle.plan_model.specs.Bounds.{seconds_per_day}
use Rattle.trip_frequencies.specs.{Frequencies.no_frequency, declared.frequencies.FrequencyRow.FrequencyRow}
use Rattle.connections.specs.{TripRuns.{own_run, repeat_run, runs_of_trip}, Window.{window_of, day_at, holds}, Origins.origin_of_day, Steps.{departs, steps_of, has_connection}}
use Rattle.connections.specs.RepeatedRuns.{repeat_of, origin_at, is_repeat, in_order, with_repeat, repeat_precedes}
use Rattle.connections.proofs.{StepLemmas.{holds_parts, leaves_some, some_step}, OrderLemmas.All-in_order}
use Rattle.stop_times.specs.{declared.rows.StopRow.StopRow, StopTimeBounds.end_of_times}
use Rattle.gtfs_tables.specs.Timed.{repeat_at}
unfoldable use Rattle.connections.specs.{Steps.steps_below, RepeatedRuns.{row_repeats, rows_repeats}}
use Rattle.window_laws.specs.MoreTrips.{on_line, RepeatToo}
use Rattle.window_laws.proofs.{Lists.{Has, has_only_if, has_joined, has_mapped}, Types.{Window, ServiceDay, Run, Origin, Repeat}}

placed : (x : Repeat) (rs : List Repeat) → Contains (with_repeat x rs) x
placed x [] = Contains-head x []
placed x (y ∷ rs) = cond_both (repeat_precedes y x) (y ∷ with_repeat x rs) (x ∷ y ∷ rs) (λ rs. Contains rs x)
    (λ sooner. Contains-tail y (with_repeat x rs) x (placed x rs)) (λ later. Contains-head x (y ∷ rs))

kept : (x : Repeat) (rs : List Repeat) (r : Repeat) → Contains rs r → Contains (with_repeat x rs) r
kept x [] r has = absurd (Contains-nil r has)
kept x (y ∷ rs) r has = cond_both (repeat_precedes y x) (y ∷ with_repeat x rs) (x ∷ y ∷ rs) (λ rs. Contains rs r)
    (λ sooner. elim (Contains-cons_cases y rs r has) [
      | inl is ↦ subst (Contains (y ∷ with_repeat x rs)) is (Contains-head y (with_repeat x rs))
      | inr there ↦ Contains-tail y (with_repeat x rs) r (kept x rs r there)
    ])
    (λ later. Contains-tail x (y ∷ rs) r has)

-- what is in a list is in it in order
Contains-in_order : (rs : List Repeat) (r : Repeat) → Contains rs r → Contains (in_order rs) r
Contains-in_order [] r has = has
Contains-in_order (x ∷ rs) r has = elim (Contains-cons_cases x rs r has) [
  | inl is ↦ subst (Contains (with_repeat x (in_order rs))) is (placed x (in_order rs))
  | inr there ↦ kept x (in_order rs) r (Contains-in_order rs r there)
]

-- the window of this many hours from the start is part of that of others from another start on the same date
pub record IsWithin (start horizon other longer : ℕ) : Type 0 where
  pub date : start / seconds_per_day ≡ other / seconds_per_day
  pub from : other ≤ start
  pub to : start + 3600 * horizon ≤ other + 3600 * longer

module _ (start horizon at longer : ℕ) (within : IsWithin start horizon at longer) where
  abbrev w : Window
  w = window_of start horizon

  abbrev v : Window
  v = window_of at longer

  holds_too : (moment : ℤ) → holds w moment ≡ true → holds v moment ≡ true
  holds_too moment h = let parts = holds_parts w moment h in grind (arith, within.from, within.to, int_le, pos, ints)

  pub same_day : (d : ℕ) → day_at w d ≡ day_at v d
  same_day d = rw within.date refl

  -- the kept rows that are left in the one window are left in the other
  pub steps_too : (rows : List StopRow) (o : Origin) → All (Has (λ (k : ℕ) l. k ≡ l) (steps_of v rows o)) (steps_of w rows o)
  unfolding steps_below
  steps_too rows o = has_joined (λ (k : ℕ) l. k ≡ l) _ _ (length rows - 1) (length rows - 1)
      (λ k inside. (k, inside, has_only_if (λ (k : ℕ) l. k ≡ l) (holds w (departs rows o k)) (holds v (departs rows o k)) k k (holds_too (departs rows o k)) refl))

  some_too : (rows : List StopRow) (o : Origin) → has_connection w rows o ≡ true → has_connection v rows o ≡ true
  some_too rows o some =
      let (k, step) = leaves_some w rows o (length rows - 1) (ltb-true 0 _ some) in
      lt-ltb 0 _ (some_step v rows o (length rows - 1) k step.inside (holds_too (departs rows o k) step.holding))

  -- runs that start when others do
  abbrev SameStart : Repeat → Repeat → Type 0
  SameStart a b = b.departure ≡ a.departure

  module _ (rows : List StopRow) (day : ServiceDay) where
    repeat_too : (row : FrequencyRow) (m : ℕ) → is_repeat w rows day row m ≡ true → is_repeat v rows day row m ≡ true
    repeat_too row m is = grind (arith, and_parts, and_from, some_too)

    row_too : (row : FrequencyRow) (line : ℕ) → All (Has SameStart (row_repeats v rows day (on_line line row))) (row_repeats w rows day row)
    unfolding row_repeats
    row_too row line = has_joined SameStart _ _ end_of_times end_of_times
        (λ m inside. (
          m,
          inside,
          has_only_if SameStart (is_repeat w rows day row m) (is_repeat v rows day (on_line line row) m) (repeat_of row m) (repeat_of (on_line line row) m)
              (repeat_too row m) refl,
        ))

    rows_too : (fs others : List FrequencyRow) → All (λ r. (line : ℕ) × Contains others (on_line line r)) fs
        → All (Has SameStart (rows_repeats v rows day others)) (rows_repeats w rows day fs)
    unfolding rows_repeats
    rows_too fs others too = has_joined SameStart _ _ (length fs) (length others) (λ i inside.
        let (line, has) = too i no_frequency.row inside in
        let (k, there, is) = has in
        let same : repeat_at others k ≡ on_line line (repeat_at fs i) = get_or_default others k no_frequency.row (on_line line (repeat_at fs i)) there ∙ is in
        (k, there, subst (λ row. All (Has SameStart (row_repeats v rows day row)) (row_repeats w rows day (repeat_at fs i))) (sym same) (row_too (repeat_at fs i) line)))

    ordered_too : (fs others : List FrequencyRow) → All (λ r. (line : ℕ) × Contains others (on_line line r)) fs
        → All (Has SameStart (in_order (rows_repeats v rows day others))) (in_order (rows_repeats w rows day fs))
    ordered_too fs others too =
        All-in_order (Has SameStart (in_order (rows_repeats v rows day others))) (rows_repeats w rows day fs)
        (All-weaker (Has SameStart (rows_repeats v rows day others)) (Has SameStart (in_order (rows_repeats v rows day others)))
        (λ a has. (has.0, Contains-in_order (rows_repeats v rows day others) has.0 has.1, has.2)) (rows_repeats w rows day fs) (rows_too fs others too))

    -- runs of a trip that are those of another
    abbrev pub SameRun : (trip other : ℕ) → Run → Run → Type 0
    SameRun trip other a b = (b.origin ≡ a.origin) × (a.trip ≡ trip) × (b.trip ≡ other)

    pub runs_too : (trip other : ℕ) (fs others : List FrequencyRow) → RepeatToo fs others
        → All (Has (SameRun trip other) (runs_of_trip v rows others day other)) (runs_of_trip w rows fs day trip)
    runs_too trip other [] [] too =
        has_only_if (SameRun trip other) (has_connection w rows (origin_of_day day)) (has_connection v rows (origin_of_day day)) (own_run day trip) (own_run day other)
        (some_too rows (origin_of_day day)) (refl, refl, refl)
    runs_too trip other [] (row ∷ others) too = absurd too
    runs_too trip other (row ∷ fs) [] too = absurd (Contains-nil (on_line (too 0 row (omega arith)).0 row) (too 0 row (omega arith)).1)
    runs_too trip other (row ∷ fs) (next ∷ others) too =
        has_mapped (SameRun trip other) SameStart (repeat_run rows day trip) (repeat_run rows day other) (in_order (rows_repeats w rows day (row ∷ fs)))
        (in_order (rows_repeats v rows day (next ∷ others))) (λ a b same. (ap (origin_at rows day) same, refl, refl)) (ordered_too (row ∷ fs) (next ∷ others) too)
