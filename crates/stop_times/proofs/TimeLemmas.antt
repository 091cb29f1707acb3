-- The rows of stop times.
use Rattle.stop_times.proofs.Common.{rules, ◌≡◌, ◌≢◌, ℕ, ◌+◌, ◌<◌, ◌≤◌, nat_lt, Bool, false, List, [], length, slice_index_or, Option, Some, None, if◌then◌else◌, refl, sym, ap, ◌∙◌, arith}
use Rattle.stop_times.proofs.Common.{Result, Ok, Err, common_steps, cases_Bool, nat_tests, and_then, unless, value_or, TripId, FeedFault, TooManyRows, NoMemory, StopTimes, loaded_from, row_count}
use Rattle.stop_times.proofs.Common.{TimedRow, first_below, StopRow, stop_times_from, AreVisits, AreStopTimes, time_columns, timed_of, timed_in, timed_at, bad_time, timed_rows, no_row}
use Rattle.stop_times.proofs.Common.{counted_fault, TripsAndStops, missing_time_column, order_fault, stop_times_fault, length-list_below, or_first, or_then}
use Rattle.stop_times.specs.declared.rows.TimeColumns.{TimeColumns}
use Rattle.table_files.specs.{declared.loading.Loaded.TheVariants.{NoRecord, Found}, Loading.{Records, required}}

-- the row by the indexes of its columns
pub timed_is : (named : TripsAndStops) (t : List (List (List ℕ))) (c : TimeColumns) (i : ℕ) (r : Result TimedRow FeedFault) → c ≡ time_columns t → timed_in named t c i ≡ r → timed_at named t i ≡ r
unfolding timed_at
timed_is named t c i r e h = ap (λ k. timed_in named t k i) (sym e) ∙ h

-- and by its record
pub row_is : (named : TripsAndStops) (t : List (List (List ℕ))) (c : TimeColumns) (i : ℕ) (fields : List (List ℕ)) (r : Result TimedRow FeedFault)
    → c ≡ time_columns t → slice_index_or t (i + 1) [] ≡ fields → timed_of named (i + 2) c fields ≡ r → timed_at named t i ≡ r
row_is named t c i fields r e same h = grind (arith, timed_is)

pub timed_count : (named : TripsAndStops) (t : List (List (List ℕ))) → length (timed_rows named t) ≡ row_count t
timed_count named t = length-list_below (λ i. value_or no_row (timed_at named t i)) (row_count t)

if_counted : (b : Bool) (x fault f : FeedFault) (o : Option FeedFault) → f ≢ NoMemory → (fault ≢ NoMemory → o ≡ Some fault)
    → (if b then Some x else Some fault) ≡ Some f → (if b then Some x else o) ≡ Some f
if_counted b x fault f o free here h = grind (arith, cases_Bool b)

-- the fault of a row, where there are not too many
pub counted_row : (most n : ℕ) (fault f : FeedFault) (o : Option FeedFault) → f ≢ NoMemory → (fault ≢ NoMemory → o ≡ Some fault)
    → counted_fault most n (Some fault) ≡ Some f → counted_fault most n o ≡ Some f
counted_row most n fault f o free here h = if_counted (nat_lt most n) (TooManyRows StopTimes n) fault f o free here h

-- where there are too many, whatever the rows are
pub counted_many : (most n : ℕ) (a b : Option FeedFault) → most < n → counted_fault most n a ≡ counted_fault most n b
counted_many most n a b h = grind (arith, common_steps, nat_tests)

-- a fault that comes before others
pub counted_same : (most n : ℕ) (a b : Option FeedFault) (f : FeedFault) → ((x : FeedFault) → a ≡ Some x → b ≡ Some x) → counted_fault most n a ≡ Some f → counted_fault most n b ≡ Some f
counted_same most n a b f k h = grind arith

-- what is read of a text with these records
fault_by : (a b : Bool) (n : ℕ) (t : Records) (check : Records → Option FeedFault) (f : FeedFault) → a ≡ false
    → (if b then Some (TooManyRows StopTimes n) else check t) ≡ Some f
    → and_then (required StopTimes TripId (if a then Ok NoRecord else if b then Err (TooManyRows StopTimes n) else Ok (Found t))) (λ x. unless (check x) x) ≡ Err f
fault_by a b n t check f e h = grind (arith, cases_Bool a, cases_Bool b)

sound_by : (a b : Bool) (n : ℕ) (t : Records) (check : Records → Option FeedFault) → a ≡ false → b ≡ false → check t ≡ None
    → and_then (required StopTimes TripId (if a then Ok NoRecord else if b then Err (TooManyRows StopTimes n) else Ok (Found t))) (λ x. unless (check x) x) ≡ Ok t
sound_by a b n t check e k h = grind (arith, cases_Bool a, cases_Bool b)

pub times_fault : (named : TripsAndStops) (most : ℕ) (t : List (List (List ℕ))) (f : FeedFault) → 0 < length t
    → counted_fault most (row_count t) (stop_times_fault named t) ≡ Some f → stop_times_from (loaded_from StopTimes most t) named ≡ Err f
times_fault named most t f some h = grind (arith, common_steps, nat_tests, fault_by)

pub times_sound : (named : TripsAndStops) (most : ℕ) (t : List (List (List ℕ))) → 0 < length t → row_count t ≤ most
    → stop_times_fault named t ≡ None → stop_times_from (loaded_from StopTimes most t) named ≡ Ok t
times_sound named most t some few h = grind (arith, common_steps, nat_tests, sound_by)

-- where the rows may be this many, the fault of the table is counted no more
pub counted_few : (most n : ℕ) (o : Option FeedFault) → n ≤ most → counted_fault most n o ≡ o
counted_few most n o h = grind (arith, common_steps, nat_tests)

-- the fault of the table: in its header, in a row by itself, and of the rows beside each other
pub fault_of_header : (named : TripsAndStops) (t : List (List (List ℕ))) (f : FeedFault) → missing_time_column (time_columns t) ≡ Some f → stop_times_fault named t ≡ Some f
unfolding stop_times_fault
fault_of_header named t f h = or_first _ _ f h

pub fault_of_row : (named : TripsAndStops) (t : List (List (List ℕ))) (f : FeedFault)
    → missing_time_column (time_columns t) ≡ None → first_below (bad_time named t) (row_count t) ≡ Some f → stop_times_fault named t ≡ Some f
unfolding stop_times_fault
fault_of_row named t f none h = or_then _ _ _ none (or_first _ _ f h)

pub fault_of_order : (named : TripsAndStops) (t : List (List (List ℕ))) → missing_time_column (time_columns t) ≡ None → first_below (bad_time named t) (row_count t) ≡ None
    → stop_times_fault named t ≡ order_fault (timed_rows named t)
unfolding stop_times_fault
fault_of_order named t none h = or_then _ _ _ none (or_then _ _ _ h refl)

-- the rows that were read of a table
pub record AreTimedRows (named : TripsAndStops) (most : ℕ) (t : List (List (List ℕ))) (rows : List TimedRow) : Type 0 where
  pub rows_are : rows ≡ timed_rows named t
  pub some : 0 < length t
  pub few : length rows ≤ most
  pub rest : stop_times_fault named t ≡ order_fault (timed_rows named t)

pub timed_rows_are : (named : TripsAndStops) (most : ℕ) (t : List (List (List ℕ))) (timed rows : List TimedRow) → rows ≡ timed → timed ≡ timed_rows named t → 0 < length t → length timed ≤ most
    → stop_times_fault named t ≡ order_fault (timed_rows named t) → AreTimedRows named most t rows
timed_rows_are named most t timed rows same are some few rest = grind arith

few_rows : (named : TripsAndStops) (most : ℕ) (t : List (List (List ℕ))) (rows : List TimedRow) → AreTimedRows named most t rows → row_count t ≤ most
few_rows named most t rows r = omega (arith, r.few, ap length r.rows_are, timed_count named t)

pub order_faulty : (named : TripsAndStops) (most : ℕ) (t : List (List (List ℕ))) (rows : List TimedRow) (f : FeedFault)
    → AreTimedRows named most t rows → order_fault rows ≡ Some f → stop_times_from (loaded_from StopTimes most t) named ≡ Err f
order_faulty named most t rows f r h =
    times_fault named most t f r.some
    (counted_few most (row_count t) (stop_times_fault named t) (few_rows named most t rows r) ∙ r.rest ∙ ap order_fault (sym r.rows_are) ∙ h)

pub order_sound : (named : TripsAndStops) (most : ℕ) (t : List (List (List ℕ))) (rows : List TimedRow) → AreTimedRows named most t rows → order_fault rows ≡ None → stop_times_fault named t ≡ None
order_sound named most t rows r h = r.rest ∙ ap order_fault (sym r.rows_are) ∙ h

pub visits_of_rows : (named : TripsAndStops) (most : ℕ) (t : List (List (List ℕ))) (rows : List TimedRow) (visits : List (List StopRow))
    → AreTimedRows named most t rows → length visits ≡ length named.trips
    → ((trip : ℕ) → trip < length named.trips → AreStopTimes rows trip (slice_index_or visits trip [])) → AreVisits named (Ok t) visits
visits_of_rows named most t rows visits r size each = grind arith

pub visits_of_text : (named : TripsAndStops) (most : ℕ) (t : List (List (List ℕ))) (rows : List TimedRow) (visits : List (List StopRow))
    → AreTimedRows named most t rows → order_fault rows ≡ None → AreVisits named (Ok t) visits → AreVisits named (stop_times_from (loaded_from StopTimes most t) named) visits
visits_of_text named most t rows visits r h v = search (rules, times_sound, few_rows, order_sound)
