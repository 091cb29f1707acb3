use Rattle.meat_scan.proofs.{Common.{◌≡◌, ℕ, ◌+◌, ◌<◌, length, get_or, take, ways_into}, WaySteps.{way_in, way_number}}
use Rattle.meat_scan.proofs.count_ways.Given as goal

-- the counts after the ways so far
abbrev pub invariant-loop-k : goal.invariant-loop-k
invariant-loop-k l = record {
  len : length l.room ≡ length l.initial.room;
  counts : (from : ℕ) → from < length l.initial.room → get_or l.room from 0 ≡ get_or l.initial.room from 0 + way_number (way_in (take l.k (ways_into l.network l.place.0)) from);
}
