-- Services run on the days on which they are active.
use Rattle.service_days.proofs.Common.{◌≡◌, ℕ, ℤ, ◌<◌, ◌≤◌, false, List, length, Option, Some, None, refl, sym, ap, ◌∙◌, arith, slice_get-get_or, slice_get_past, ServiceId, Calendar, any_below}
use Rattle.service_days.proofs.Common.{row_count, number_in, field, one_row, no_row, number-here, length-list_below, get-list_below, Exception, runs_in_period, period_of, service_ids, periods_of}
use Rattle.service_days.proofs.Common.{runs_in_row, AreNumbered, runs_within, period_runs, runs_of_service, is_active_service, AreDistinctRows}

-- the period of a service is that of its row
runs_of : (t : List (List (List ℕ))) → AreDistinctRows t → (service : List ℕ) (day : ℤ) (o : Option ℕ) → number_in service (service_ids t) ≡ o
    → period_runs (periods_of t) day o ≡ any_below (runs_in_row t service day) (row_count t)
runs_of t d service day None h =
    sym (no_row (field t ServiceId) (row_count t) service (λ i. runs_in_period (period_of t i) day) h)
runs_of t d service day (Some k) h =
    let n = row_count t in
    let w = number-here service (service_ids t) k h in
    let inside : k < n = omega (arith, w.0, length-list_below (field t ServiceId) n) in
    let there : k < length (periods_of t) = omega (arith, length-list_below (period_of t) n) in
    ap (λ p. runs_within p day) (slice_get-get_or (periods_of t) k (period_of t k) there ∙ ap Some (get-list_below (period_of t) n k (period_of t k) inside))
    ∙ sym (one_row Calendar (field t ServiceId) n service (λ i. runs_in_period (period_of t i) day) d k h)

pub runs_is : (calendar dates : List (List (List ℕ))) (ids : List (List ℕ)) (exceptions : List Exception) → AreDistinctRows calendar
    → AreNumbered dates (row_count dates) (service_ids calendar) ids exceptions
    → (service : List ℕ) (day : ℤ) → runs_of_service ids (periods_of calendar) exceptions service day ≡ is_active_service calendar dates service day
runs_is calendar dates ids exceptions d n service day =
    let o = number_in service ids in
    let periods = periods_of calendar in
    let m = row_count calendar in
    let past : (k : ℕ) → length (service_ids calendar) ≤ k → period_runs periods day (Some k) ≡ false
    = λ k l. ap (λ p. runs_within p day) (slice_get_past periods k (omega (arith, l, length-list_below (field calendar ServiceId) m, length-list_below (period_of calendar) m))) in
    let held = n.kept service (period_runs periods day) refl past ∙ runs_of calendar d service day (number_in service (service_ids calendar)) refl in
    grind arith
