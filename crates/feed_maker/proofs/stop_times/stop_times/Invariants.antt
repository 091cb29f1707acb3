use Rattle.feed_maker.proofs.Common.{◌≡◌, ◌++◌, codes, joined, line_rows}
use Rattle.feed_maker.proofs.stop_times.stop_times.Given as goal

-- the rows of the lines so far
abbrev pub invariant-loop-line : goal.invariant-loop-line
invariant-loop-line l = l.text.items ≡ codes "trip_id,arrival_time,departure_time,stop_id,stop_sequence\n" ++ joined line_rows l.line
