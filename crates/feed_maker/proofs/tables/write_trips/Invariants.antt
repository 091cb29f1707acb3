use Rattle.feed_maker.proofs.Common.{◌≡◌, ◌++◌, string_bytes, joined, trip_row}
use Rattle.feed_maker.proofs.tables.write_trips.Given as goal

-- the rows of the runs so far
abbrev pub invariant-loop-run : goal.invariant-loop-run
invariant-loop-run l = string_bytes l.text ≡ string_bytes l.initial.text ++ joined (trip_row l.line.number) l.run
