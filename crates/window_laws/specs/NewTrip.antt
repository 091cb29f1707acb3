-- A feed with one trip more.
use Rattle.std.specs.Prelude.{◌≡◌, ℕ, zero, suc, List, [], ◌∷◌, length}
use Rattle.stop_times.specs.declared.rows.StopRow.{StopRow}
use Rattle.trip_frequencies.specs.declared.frequencies.FrequencyRow.{FrequencyRow}
use Rattle.gtfs_tables.specs.Feeds.{FeedParts}

-- x as the element at this index
abbrev pub insert : {A : Type 0} → (index : ℕ) → A → List A → List A
insert zero x xs = x ∷ xs
insert (suc n) x [] = x ∷ []
insert (suc n) x (y ∷ ys) = y ∷ insert n x ys

-- a trip by what a feed has of it
pub record NewTrip : Type 0 where
  pub id : List ℕ
  pub service : List ℕ
  pub route_type : ℕ
  pub route : ℕ
  pub stop_times : List StopRow
  pub frequencies : List FrequencyRow

-- the feed with this trip at this index among the others
abbrev pub with_trip : FeedParts → (index : ℕ) → NewTrip → FeedParts
with_trip f n new = record {
  stop_ids = f.stop_ids;
  places = f.places;
  trip_ids = insert n new.id f.trip_ids;
  services = insert n new.service f.services;
  route_types = insert n new.route_type f.route_types;
  route_ids = f.route_ids;
  routes = insert n new.route f.routes;
  stop_times = insert n new.stop_times f.stop_times;
  frequencies = insert n new.frequencies f.frequencies;
}

-- each list of what trips have is as long as that of their ids
pub record HasAllOfTrips (f : FeedParts) : Type 0 where
  pub services : length f.services ≡ length f.trip_ids
  pub route_types : length f.route_types ≡ length f.trip_ids
  pub routes : length f.routes ≡ length f.trip_ids
  pub stop_times : length f.stop_times ≡ length f.trip_ids
  pub frequencies : length f.frequencies ≡ length f.trip_ids
