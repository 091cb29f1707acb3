-- How `departures` and `latest` end follows from the least worst arrival.
use Rattle.run_laws.proofs.Common.{◌≡◌, ℕ, ◌<◌, ◌≤◌, arith, inl, inr, Some, Moment, Query, IsLeastWorst, reaches_from_safe, safe_exists, safe_sooner, query_until, HasSafeFor, Problem}
use Rattle.run_laws.proofs.Common.{EndsByDepartures, EndsByLatest, HasLater}

pub later_is_now : (p : Problem) (query : Query) → HasLater p query → HasSafeFor p query
later_is_now p query (moment, tree, late, safe) = safe_sooner p.timetable.network query.source.0 query query.start.0 moment tree late safe

now_is_later : (p : Problem) (query : Query) → HasSafeFor p query → HasLater p query
now_is_later p query (tree, safe) = (query.start.0, tree, omega arith, safe)

pub alike : (p : Problem) (query : Query) (latest departures : ℕ) → EndsByLatest p query latest → EndsByDepartures p query departures → latest ≡ departures
alike p query latest departures h is = grind (arith, later_is_now, now_is_later)

pub by_worst : (p : Problem) (start until : ℕ) (w : Moment) (status : ℕ) → IsLeastWorst p.timetable.network p.source.0 p.target.0 start (Some w) → EndsByLatest p (query_until p start until) status
    → (w.0 ≤ until → status ≡ 0) × (until < w.0 → status ≡ 1)
by_worst p start until w status least (inl (zero, later)) = grind (arith, later_is_now, reaches_from_safe)
by_worst p start until w status least (inr (one, never)) = grind (arith, now_is_later p (query_until p start until), safe_exists p.timetable.network p.source.0 p.target.0 start until w least)
