-- What follows from the form of a row of stop times.
use Rattle.stop_times.proofs.Common.{rules, ◌≡◌, ℕ, ◌+◌, ◌<◌, ◌≤◌, ◌-◌, ◌==◌, nat_eq, nat_le, ◌&&◌, Bool, List, [], length, slice_index, slice_index_or, Option, Some, None, IfSome, subst, arith}
use Rattle.stop_times.proofs.Common.{drop, Result, Ok, common_steps, nat_tests, and_parts, result_err, value_or, TripId, StopId, StopSequence, ArrivalTime, DepartureTime, PickupType, DropOffType}
use Rattle.stop_times.proofs.Common.{StopTimes, FeedFault, BadField, UnknownKey, number_in, StopRow, TimedRow, TripsAndStops, time_columns, stop_number_in, times_of, visit_of, timed_from}
use Rattle.stop_times.proofs.Common.{timed_at, no_row, optional-each, number_inside, end_of_times}
use Rattle.stop_times.specs.StopTimes.{allows_in, time_in}
use Rattle.std.specs.{List.list_all, Char.is_ascii_digit}
use Rattle.std.proofs.Common.{take}
use Rattle.clock_text.specs.{Digits.whole_of, Times.{time_at, time_of, seconds_of_time}}
use Rattle.clock_text.proofs.{OneText.{if_cases, some_cases}, DigitLemmas.whole_bound}
use Rattle.csv_rows.specs.{Ids.{name_in, text_in}, Tables.field_of}
use Rattle.plan_model.proofs.Results.{require-each}

-- a kept row is at the place of a stop, at times of at most 167 hours
pub record IsAtStop (stops : ℕ) (places : List ℕ) (v : StopRow) : Type 0 where
  pub stop : ℕ
  pub inside : stop < stops
  pub place : v.place.0 ≡ slice_index places stop
  pub arrival : v.arrival < end_of_times
  pub departure : v.departure < end_of_times

pub record InForm (stops : ℕ) (places : List ℕ) (r : TimedRow) : Type 0 where
  pub sequence : r.sequence ≤ 999999999
  pub visit : IfSome r.visit (IsAtStop stops places)

same_ok : (x r : TimedRow) → ◌≡◌ {A = Result TimedRow FeedFault} (Ok x) (Ok r) → x ≡ r
same_ok x r e = cc

abbrev IsBelow : ℕ → Option ℕ → Type 0
IsBelow n o = IfSome o (λ k. k < n)

seconds_below : (h m s n : ℕ) → seconds_of_time h m s ≡ Some n → n < end_of_times
seconds_below h m s n e = grind (arith, common_steps, nat_tests, some_cases, and_parts)

has_marks : ℕ → List ℕ → Bool
has_marks k t =
    nat_eq (slice_index t k) 58 && (nat_eq (slice_index t (k + 3)) 58 && (list_all is_ascii_digit (take k t)
    && (list_all is_ascii_digit (take 2 (drop (k + 1) t)) && list_all is_ascii_digit (take 2 (drop (k + 4) t)))))

of_below : (k : ℕ) (t : List ℕ) (n : ℕ) → time_of k t ≡ Some n → n < end_of_times
unfolding has_marks
of_below k t n e = search (rules, seconds_below, if_cases, has_marks)

pub time_below : (text : List ℕ) (n : ℕ) → time_at text ≡ Some n → n < end_of_times
time_below text n e =
    of_below (length text - 6) text n (if_cases (nat_le 7 (length text) && nat_le (length text) 9) (time_of (length text - 6) text) n e).1

visit_form : (stops : ℕ) (places : List ℕ) (o a d : Option ℕ) (board exit : Bool) → IsBelow stops o → IsBelow end_of_times a → IsBelow end_of_times d
    → IfSome (visit_of places o (times_of a d) board exit) (IsAtStop stops places)
visit_form stops places o a d board exit h k l = grind arith

-- a row that has no fault by itself
from_in_form : (named : TripsAndStops) (line : ℕ) (trip stop sequence arrival departure pickup drop_off : List ℕ) (r : TimedRow)
    → timed_from named line trip stop sequence arrival departure pickup drop_off ≡ Ok r → InForm (length named.stops) named.places r
from_in_form named line trip stop sequence arrival departure pickup drop_off =
    let P : TimedRow → Type 0 = InForm (length named.stops) named.places in
    require-each P (name_in trip) (BadField StopTimes line TripId) _ (λ trip' e0.
    require-each P (number_in trip' named.trips) (UnknownKey StopTimes line TripId) _ (λ number e1.
    require-each P (text_in stop) (BadField StopTimes line StopId) _ (λ stop' e2.
    require-each P (stop_number_in named.stops stop') (UnknownKey StopTimes line StopId) _ (λ stop_number e3.
    require-each P (whole_of 999999999 sequence) (BadField StopTimes line StopSequence) _ (λ sequence' e4.
    require-each P (time_in arrival) (BadField StopTimes line ArrivalTime) _ (λ arrival' e5.
    require-each P (time_in departure) (BadField StopTimes line DepartureTime) _ (λ departure' e6.
    require-each P (allows_in pickup) (BadField StopTimes line PickupType) _ (λ board e7.
    require-each P (allows_in drop_off) (BadField StopTimes line DropOffType) _ (λ exit e8 r q.
    subst P (same_ok _ r q) (record {
      sequence = whole_bound 999999999 sequence' sequence e4;
      visit = visit_form (length named.stops) named.places stop_number arrival' departure' board exit
          (optional-each (λ k. k < length named.stops) (length stop' == 0) (number_in stop' named.stops) (number_inside stop' named.stops) stop_number e3)
          (optional-each (λ k. k < end_of_times) (length arrival == 0) (time_at arrival) (time_below arrival) arrival' e5)
          (optional-each (λ k. k < end_of_times) (length departure == 0) (time_at departure) (time_below departure) departure' e6);
    }))))))))))

ok_form : (P : TimedRow → Type 0) (o : Result TimedRow FeedFault) → result_err o ≡ None → ((r : TimedRow) → o ≡ Ok r → P r) → P (value_or no_row o)
ok_form P o h k = grind arith

pub row_in_form : (named : TripsAndStops) (t : List (List (List ℕ))) (i : ℕ) → result_err (timed_at named t i) ≡ None
    → InForm (length named.stops) named.places (value_or no_row (timed_at named t i))
unfolding timed_at
row_in_form named t i none =
    let c = time_columns t in
    let row = slice_index_or t (i + 1) [] in
    ok_form (InForm (length named.stops) named.places) (timed_at named t i) none
    (from_in_form named (i + 2) (field_of row c.trip) (field_of row c.stop) (field_of row c.sequence) (field_of row c.arrival)
    (field_of row c.departure) (field_of row c.pickup) (field_of row c.drop_off))
