-- The tables of a feed make one feed.
use Rattle.journey_problem.proofs.Common.{◌≡◌, ℕ, ◌<◌, sym, ap, ◌∙◌, arith, List, [], length, Some, Result, true, is_some, ext_get_or, row_count, FeedFault, FeedParts, Tables, IsFeed, IsFeedOf}
use Rattle.journey_problem.proofs.OneOrder.{Enumerates, agree, same_size}
use Rattle.stop_times.specs.{declared.rows.StopRow.StopRow, StopTimes.{row_at, is_kept, timed_rows}, Visits.{no_visit, IsVisit, AreStopTimes}}
use Rattle.gtfs_tables.specs.Feeds.{named_in}

never_both : (rows : _) (a b : ℕ) → (row_at rows a).sequence < (row_at rows b).sequence → (row_at rows b).sequence < (row_at rows a).sequence → ⊥
never_both rows a b h k = omega (arith, h, k)

lines : (rows : _) (trip : ℕ) (visits : List StopRow) (s : AreStopTimes rows trip visits)
    → Enumerates (λ i. (i < length rows) × ((row_at rows i).trip ≡ trip) × (is_kept rows i ≡ true)) (λ a b. (row_at rows a).sequence < (row_at rows b).sequence) s.line (length visits)
lines rows trip visits s = record {
  inside = λ k h. let v = s.visit k h in (v.inside, v.of_trip, ap is_some v.kept);
  rising = s.rising;
  all = λ i h. s.all i h.0 h.1 h.2;
}

same_visit : (rows : _) (trip i j : ℕ) (v w : StopRow) → i ≡ j → IsVisit rows trip i v → IsVisit rows trip j w → v ≡ w
same_visit rows trip i j v w e a b = let h : Some v ≡ Some w = sym a.kept ∙ ap (λ k. (row_at rows k).visit) e ∙ b.kept in cc

-- the kept rows of a trip are one list
pub one_list : (rows : _) (trip : ℕ) (visits other : List StopRow) → AreStopTimes rows trip visits → AreStopTimes rows trip other → visits ≡ other
one_list rows trip visits other s t =
    let taken : ℕ → Type 0 = λ i. (i < length rows) × ((row_at rows i).trip ≡ trip) × (is_kept rows i ≡ true) in
    let sooner : ℕ → ℕ → Type 0 = λ a b. (row_at rows a).sequence < (row_at rows b).sequence in
    let a = lines rows trip visits s in
    let b = lines rows trip other t in
    ext_get_or no_visit visits other (same_size taken sooner (never_both rows) s.line t.line (length visits) (length other) a b) (λ k h.
    let w = agree taken sooner (never_both rows) s.line t.line (length visits) (length other) a b k h in
    same_visit rows trip (s.line k) (t.line k) _ _ w.1 (s.visit k h) (t.visit k w.0))

-- tables make one feed
pub one_feed : (t : Tables) (f g : FeedParts) → IsFeed t f → IsFeed t g → f ≡ g
one_feed t f g a b =
    let rows = timed_rows (named_in t.trips t.stops) t.stop_times in
    let times : f.stop_times ≡ g.stop_times = ext_get_or [] f.stop_times g.stop_times (a.size ∙ sym b.size) (λ k h.
    let inside : k < row_count t.trips = omega (arith, h, a.size) in
    one_list rows k _ _ (a.times k inside) (b.times k inside)) in
    λ i. record {
      stop_ids = (a.stops ∙ sym b.stops) i;
      places = (a.places_of_stops ∙ sym b.places_of_stops) i;
      trip_ids = (a.trips ∙ sym b.trips) i;
      services = (a.services_of_trips ∙ sym b.services_of_trips) i;
      route_types = (a.types_of_trips ∙ sym b.types_of_trips) i;
      route_ids = (a.routes ∙ sym b.routes) i;
      routes = (a.routes_of_trips ∙ sym b.routes_of_trips) i;
      stop_times = times i;
      frequencies = (a.frequencies_of_trips ∙ sym b.frequencies_of_trips) i;
    }

pub one_feed_of : (r : Result Tables FeedFault) (f g : FeedParts) → IsFeedOf r f → IsFeedOf r g → f ≡ g
one_feed_of r f g a b = grind (arith, one_feed)
