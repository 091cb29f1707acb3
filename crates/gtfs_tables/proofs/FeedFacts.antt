-- A feed's trips are timed: their kept rows are at places of the feed, and no time goes back.
use Rattle.gtfs_tables.proofs.Common.{◌≡◌, ℕ, ◌<◌, ◌==◌, Bool, List, length, slice_index, Option, IfSome, if◌then◌else◌, refl, arith, unwrap_or, number_in, row_count, field, StopId, FeedParts}
use Rattle.gtfs_tables.proofs.Common.{IsSoundFeed, stop_ids, stop_places, place_from, parent_of, length-list_below, get-list_below, AreTimed, IsTimed, rows_of}
use Rattle.csv_rows.proofs.RowLemmas.{number_inside}
use Rattle.stop_times.proofs.NoFault.{AreInOrder, kept_in_order}

place_if : (b : Bool) (o : Option ℕ) (i n : ℕ) → i < n → IfSome o (λ k. k < n) → (if b then i else unwrap_or o 0) < n
place_if b o i n h k = grind arith

place_few : (name : List ℕ) (names : List (List ℕ)) (o : Option ℕ) → o ≡ number_in name names → IfSome o (λ k. k < length names)
place_few name names o e = grind (arith, number_inside)

-- the place of a stop is a stop
place_is_stop : (t : List (List (List ℕ))) (i : ℕ) → i < row_count t → slice_index (stop_places t) i < row_count t
place_is_stop t i h =
    let count : length (stop_ids t) ≡ row_count t = length-list_below (field t StopId) (row_count t) in
    let here : slice_index (stop_places t) i ≡ place_from (stop_ids t) (parent_of t i) i
    = get-list_below (λ j. place_from (stop_ids t) (parent_of t j) j) (row_count t) i 0 h in
    let few = place_if (length (parent_of t i) == 0) (number_in (parent_of t i) (stop_ids t)) i (length (stop_ids t)) (omega (arith, count))
    (place_few (parent_of t i) (stop_ids t) (number_in (parent_of t i) (stop_ids t)) refl) in
    omega (arith, here, few, count)

module _ (f : FeedParts) (s : IsSoundFeed f) where
  abbrev stops : ℕ
  stops = length (stop_ids s.tables.stops)

  -- the place of each stop is one of the stops
  pub place_below : (stop : ℕ) → stop < length f.stop_ids → slice_index f.places stop < length f.stop_ids
  place_below stop inside = grind (arith, stops, length-list_below, place_is_stop)

  timed : (trip : ℕ) → AreInOrder stops (stop_places s.tables.stops) (rows_of f trip) → AreTimed (rows_of f trip) (length f.stop_ids)
  timed trip o = grind (arith, stops, length-list_below, place_is_stop)

  pub is_timed : IsTimed f
  is_timed trip h = grind (arith, length-list_below, timed, kept_in_order)
