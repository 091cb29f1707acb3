use Rattle.feed_maker.proofs.Common.{◌≡◌, ◌++◌, string_bytes, codes, joined, hub_row, own_rows}
use Rattle.feed_maker.proofs.tables.stops.Given as goal

-- the rows of the lines so far
abbrev pub invariant-loop-line : goal.invariant-loop-line
invariant-loop-line l = string_bytes l.text ≡ codes "stop_id\n" ++ joined hub_row 10 ++ joined own_rows l.line
