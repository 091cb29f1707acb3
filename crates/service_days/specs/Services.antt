-- On which days services run, by their numbers.
use Rattle.std.specs.Prelude.{ℕ, ℤ, not, ◌&&◌, ◌||◌, Bool, true, false, List, slice_get, Option, Some, None}
use Rattle.csv_rows.specs.Tables.{number_in}
use Rattle.service_days.specs.{declared.{periods.Period.Period, exceptions.Exception.Exception}, Periods.runs_in_period, Exceptions.has_at}

abbrev pub runs_within : Option Period → ℤ → Bool
runs_within None day = false
runs_within (Some p) day = runs_in_period p day

-- whether the period of the service of this number lets it run
abbrev pub period_runs : List Period → ℤ → Option ℕ → Bool
period_runs periods day None = false
period_runs periods day (Some service) = runs_within (slice_get periods service) day

-- whether the service of this number runs on a day: no exception removes the day, and one adds it or its period holds it
abbrev pub runs_at : List Period → List Exception → ℤ → Option ℕ → Bool
runs_at periods exceptions day service =
    not (has_at exceptions day false service) && (has_at exceptions day true service || period_runs periods day service)

-- whether a service runs on a day
abbrev pub runs_of_service : List (List ℕ) → List Period → List Exception → List ℕ → ℤ → Bool
runs_of_service ids periods exceptions service day = runs_at periods exceptions day (number_in service ids)

-- services by their numbers, with their periods and exceptions
pub record ServiceParts : Type 0 where
  pub ids : List (List ℕ)
  pub periods : List Period
  pub exceptions : List Exception

-- whether a service runs on a day
abbrev pub runs : ServiceParts → List ℕ → ℤ → Bool
runs s service day = runs_of_service s.ids s.periods s.exceptions service day
