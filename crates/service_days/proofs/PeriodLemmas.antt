-- The rows of the calendar.
use Rattle.service_days.proofs.Common.{◌≡◌, ℕ, ◌<◌, List, Some, None, sym, ap, ServiceId, first_below, name_in, row_count, field, none-each, name_is, period_columns, period_in, period_at}
use Rattle.service_days.proofs.Common.{bad_period, result_err-require}
use Rattle.service_days.specs.declared.periods.PeriodColumns.{PeriodColumns}

-- the row by the indexes of the columns
pub period_is : (t : List (List (List ℕ))) (c : PeriodColumns) (i : ℕ) → c ≡ period_columns t → period_at t i ≡ period_in t c i
unfolding period_at
period_is t c i e = ap (λ k. period_in t k i) (sym e)

-- each row names its service
pub periods_named : (t : List (List (List ℕ))) → first_below (bad_period t) (row_count t) ≡ None → (i : ℕ) → i < row_count t → name_in (field t ServiceId i) ≡ Some (field t ServiceId i)
unfolding period_at
periods_named t none i inside =
    let w = result_err-require _ _ _ (none-each (bad_period t) (row_count t) none i inside) in
    name_is (field t ServiceId i) w.0 w.1
