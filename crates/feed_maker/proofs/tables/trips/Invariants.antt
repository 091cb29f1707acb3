use Rattle.feed_maker.proofs.Common.{◌≡◌, ◌++◌, string_bytes, codes, joined, trip_rows}
use Rattle.feed_maker.proofs.tables.trips.Given as goal

-- the rows of the lines so far
abbrev pub invariant-loop-line : goal.invariant-loop-line
invariant-loop-line l = string_bytes l.text ≡ codes "route_id,service_id,trip_id\n" ++ joined trip_rows l.line
