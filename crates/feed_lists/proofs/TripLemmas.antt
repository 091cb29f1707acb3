-- The rows of trips.
use Rattle.feed_lists.proofs.Common.{arith, ◌≡◌, ℕ, ◌<◌, ◌+◌, List, Some, None, sym, ap, result_err, result_err-require, RouteId, ServiceId, TripId, first_below, name_in, row_count, field}
use Rattle.feed_lists.proofs.Common.{none-each, trip_from, trip_columns, trip_in, trip_at, bad_trip, name_is}
use Rattle.feed_lists.specs.declared.trips.TripColumns.{TripColumns}

-- the row by the indexes of the columns
pub trip_is : (routes : List (List ℕ)) (t : List (List (List ℕ))) (c : TripColumns) (i : ℕ) → c ≡ trip_columns t → trip_at routes t i ≡ trip_in routes t c i
unfolding trip_at
trip_is routes t c i e = ap (λ k. trip_in routes t k i) (sym e)

-- a trip with no fault has a name
trip_named : (routes : List (List ℕ)) (line : ℕ) (a b c : List ℕ) → result_err (trip_from routes line a b c) ≡ None → name_in c ≡ Some c
trip_named routes line a b c none = grind (arith, result_err-require, name_is)

-- each trip has a name
pub trips_named : (routes : List (List ℕ)) (t : List (List (List ℕ))) → first_below (bad_trip routes t) (row_count t) ≡ None
    → (i : ℕ) → i < row_count t → name_in (field t TripId i) ≡ Some (field t TripId i)
unfolding trip_at
trips_named routes t none i inside =
    trip_named routes (i + 2) (field t RouteId i) (field t ServiceId i) (field t TripId i) (none-each (bad_trip routes t) (row_count t) none i inside)
