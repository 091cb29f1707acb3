-- A feed has its trips, also among others and in a longer window.
use Rattle.std.proofs.{Common.{◌≡◌, ℕ, zero, suc, ◌<◌, ◌≤◌, List, [], ◌∷◌, length, Contains, refl, ap, arith, get_or}, lemmas.Bool.cases_lt}
use Rattle.plan_model.proofs.Lists.{All-from_contains}
use Rattle.plan_model.specs.declared.model.Way.{Way}
use Rattle.trip_frequencies.specs.declared.frequencies.FrequencyRow.{FrequencyRow}
use Rattle.csv_rows.proofs.ListLemmas.{length-list_below}
use Rattle.gtfs_tables.specs.Feeds.{FeedParts, IsSoundFeed}
use Rattle.service_days.specs.Services.{ServiceParts}
use Rattle.connections.specs.TripRuns.{frequencies_of}
use Rattle.journey_problem.specs.FeedProblems.{GtfsFolder}
use Rattle.window_laws.specs.{MoreTrips.{HasLinks, on_line, RepeatToo, IsTripOf, HasTrips, HasAllOf, IsPartOf}, NewTrip.{insert, NewTrip, with_trip, HasAllOfTrips}}

module _ {A : Type 0} where
  length-insert : (n : ℕ) (x : A) (xs : List A) → length (insert n x xs) ≡ suc (length xs)
  length-insert zero x xs = refl
  length-insert (suc n) x [] = refl
  length-insert (suc n) x (y ∷ ys) = ap (λ (k : ℕ). suc k) (length-insert n x ys)

  insert-before : (n i : ℕ) (x d : A) (xs : List A) → i < n → n ≤ length xs → get_or (insert n x xs) i d ≡ get_or xs i d
  insert-before zero i x d xs before inside = absurd (omega (arith, before))
  insert-before (suc n) i x d [] before inside = absurd (omega (arith, inside))
  insert-before (suc n) zero x d (y ∷ ys) before inside = refl
  insert-before (suc n) (suc i) x d (y ∷ ys) before inside = insert-before n i x d ys (omega (arith, before)) (omega (arith, inside))

  insert-after : (n i : ℕ) (x d : A) (xs : List A) → n ≤ i → n ≤ length xs → get_or (insert n x xs) (suc i) d ≡ get_or xs i d
  insert-after zero i x d xs after inside = refl
  insert-after (suc n) i x d [] after inside = absurd (omega (arith, inside))
  insert-after (suc n) zero x d (y ∷ ys) after inside = absurd (omega (arith, after))
  insert-after (suc n) (suc i) x d (y ∷ ys) after inside = insert-after n i x d ys (omega (arith, after)) (omega (arith, inside))

-- the links themselves
pub own_links : (links : List Way) → HasLinks links links
own_links links = All-from_contains (λ way. (other : Way) × Contains links other × (other.from.0 ≡ way.from.0) × (other.seconds ≤ way.seconds)) links (λ way has. (way, has, refl, omega arith))

-- the rows themselves
own_rows : (fs : List FrequencyRow) → RepeatToo fs fs
own_rows [] = tt
own_rows (row ∷ rows) = All-from_contains (λ r. (line : ℕ) × Contains (row ∷ rows) (on_line line r)) (row ∷ rows) (λ r has. (r.line, has))

pub own_trips : (f : FeedParts) (s : ServiceParts) → HasTrips f s f s
own_trips f s trip inside = grind (arith, own_rows (frequencies_of f trip))

pub longer_part : (h : GtfsFolder) (start horizon longer : ℕ) → horizon ≤ longer → IsPartOf (record { parts = h; start = start; horizon = horizon }) (record { parts = h; start = start; horizon = longer })
longer_part h start horizon longer less = grind (arith, own_trips, own_links)

module _ (f : FeedParts) (s : ServiceParts) (all : HasAllOfTrips f) (n : ℕ) (new : NewTrip) (inside : n ≤ length f.trip_ids) where
  abbrev more : FeedParts
  more = with_trip f n new

  trip_before : (trip : ℕ) → trip < n → IsTripOf f s more s trip trip
  trip_before trip before = grind (arith, length-insert, insert-before, own_rows)

  trip_after : (trip : ℕ) → n ≤ trip → trip < length f.trip_ids → IsTripOf f s more s trip (suc trip)
  trip_after trip after there = grind (arith, length-insert, insert-after, own_rows)

  pub inserted_trips : HasTrips f s more s
  inserted_trips trip there = grind (arith, cases_lt trip n, trip_before trip, trip_after trip)

-- the feed of some tables has all of its trips
pub feed_has_all : (f : FeedParts) → IsSoundFeed f → HasAllOfTrips f
feed_has_all f sound = grind (arith, length-list_below)

-- the same folder with one trip more
pub inserted_part : (h : GtfsFolder) (index : ℕ) (new : NewTrip) → IsSoundFeed h.feed → index ≤ length h.feed.trip_ids → HasAllOf h (record h { feed = with_trip h.feed index new })
inserted_part h index new sound inside = grind (arith, inserted_trips h.feed h.services (feed_has_all h.feed sound) index new inside, feed_has_all h.feed sound, own_links)
