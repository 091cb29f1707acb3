use Rattle.feed_maker.proofs.Common.{◌≡◌, ◌++◌, string_bytes, joined, own_row}
use Rattle.feed_maker.proofs.tables.write_own_stops.Given as goal

-- the rows of the stops so far
abbrev pub invariant-loop-index : goal.invariant-loop-index
invariant-loop-index l = string_bytes l.text ≡ string_bytes l.initial.text ++ joined (own_row l.line) l.index
