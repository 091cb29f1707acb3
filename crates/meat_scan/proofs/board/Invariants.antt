use Rattle.meat_scan.proofs.{Common.{◌≡◌, ℕ, ◌+◌, ◌≤◌, length, take, ways_into, rows_of_profile, spare_at, capacity_at, with_way}, WaySteps.{way_in, way_number}}
use Rattle.meat_scan.proofs.board.Given as goal

-- the rows of each place, and its room, after the ways so far
abbrev pub invariant-loop-k : goal.invariant-loop-k
invariant-loop-k g l =
    let score = g.V.Score in
    let ways = take l.k (ways_into l.network l.connection.from.0) in
    record {
      len : length l.profiles ≡ length l.initial.profiles;
      rows : (place : ℕ) → rows_of_profile l.profiles place ≡ with_way score.scoring l.site.query.now.target.0 l.connection.dep.0 l.value l.leg (way_in ways place) place
          (rows_of_profile l.initial.profiles place);
      spare : (place : ℕ) → spare_at l.initial.profiles place ≤ spare_at l.profiles place + way_number (way_in ways place);
      capacity : (place : ℕ) → capacity_at l.profiles place ≡ capacity_at l.initial.profiles place;
    }
