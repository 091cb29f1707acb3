-- What holds of the kept rows of a trip, where the table has no fault.
use Rattle.stop_times.proofs.Common.{◌≡◌, ℕ, ◌+◌, ◌-◌, ◌<◌, ◌≤◌, List, length, slice_index_or, Option, Some, None, IfSome, subst, arith, ⊎_elim, common_steps, cases_lt, first_below, row_count}
use Rattle.stop_times.proofs.Common.{none-each, none-both, get-list_below, StopRow, TripsAndStops, timed_rows, row_at, bad_time, backward_time, stop_times_fault, no_visit, AreStopTimes}
use Rattle.stop_times.proofs.{TimeLemmas.timed_count, RowForms.{IsAtStop, InForm, row_in_form}, Beside.{forward, onward, rises}}
use Rattle.plan_model.specs.Bounds.{end_of_steps}

-- no row has a fault by itself, and no time goes back
record HasNone (named : TripsAndStops) (t : List (List (List ℕ))) : Type 0 where
  fields : first_below (bad_time named t) (row_count t) ≡ None
  backward : first_below (backward_time (timed_rows named t)) (length (timed_rows named t)) ≡ None

has_none : (named : TripsAndStops) (t : List (List (List ℕ))) → stop_times_fault named t ≡ None → HasNone named t
unfolding stop_times_fault
has_none named t h = grind (arith, none-both)

in_form : (named : TripsAndStops) (t : List (List (List ℕ))) → HasNone named t → (i : ℕ) → i < length (timed_rows named t)
    → InForm (length named.stops) named.places (row_at (timed_rows named t) i)
in_form named t none i h = grind (arith, common_steps, timed_count, get-list_below, row_in_form, none-each)

at_stop : (n : ℕ) (places : List ℕ) (o : Option StopRow) (v : StopRow) → o ≡ Some v → IfSome o (IsAtStop n places) → IsAtStop n places v
at_stop n places o v e h = let P : Option StopRow → Type 0 = λ x. IfSome x (IsAtStop n places) in subst P e h

-- they are at places of the stops, and no time goes back
pub record AreInOrder (stops : ℕ) (places : List ℕ) (visits : List StopRow) : Type 0 where
  pub few : length visits ≤ end_of_steps
  pub visit : (k : ℕ) → k < length visits → IsAtStop stops places (slice_index_or visits k no_visit)
  pub forward : (k : ℕ) → k < length visits → (slice_index_or visits k no_visit).arrival ≤ (slice_index_or visits k no_visit).departure
  pub onward : (k : ℕ) → k + 1 < length visits → (slice_index_or visits k no_visit).departure ≤ (slice_index_or visits (k + 1) no_visit).arrival

module _ (named : TripsAndStops) (t : List (List (List ℕ))) (none : HasNone named t) (trip : ℕ) (visits : List StopRow) (times : AreStopTimes (timed_rows named t) trip visits) where
  form : (k : ℕ) → k < length visits → InForm (length named.stops) named.places (row_at (timed_rows named t) (times.line k))
  form k h = in_form named t none (times.line k) (times.visit k h).inside

  few_by : (n : ℕ) → n ≡ length visits → n ≤ end_of_steps
  few_by n e =
      ⊎_elim (λ (some : 0 < n).
      let last : n - 1 < length visits = omega arith in
      omega (arith, rises (timed_rows named t) none.backward trip visits times (n - 1) last, (form (n - 1) last).sequence))
      (λ (no : n ≤ 0). omega arith) (cases_lt 0 n)

  in_order : AreInOrder (length named.stops) named.places visits
  in_order = grind (arith, few_by, at_stop, form, forward, onward)

pub kept_in_order : (named : TripsAndStops) (t : List (List (List ℕ))) → stop_times_fault named t ≡ None
    → (trip : ℕ) (visits : List StopRow) → AreStopTimes (timed_rows named t) trip visits → AreInOrder (length named.stops) named.places visits
kept_in_order named t none = in_order named t (has_none named t none)
