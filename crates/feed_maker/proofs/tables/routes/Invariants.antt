use Rattle.feed_maker.proofs.Common.{◌≡◌, ◌++◌, string_bytes, codes, joined, route_row}
use Rattle.feed_maker.proofs.tables.routes.Given as goal

-- the rows of the lines so far
abbrev pub invariant-loop-line : goal.invariant-loop-line
invariant-loop-line l = string_bytes l.text ≡ codes "route_id,route_type\n" ++ joined route_row l.line
