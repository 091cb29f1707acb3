use Rattle.feed_maker.proofs.Common.{◌≡◌, ◌++◌, string_bytes, joined, hub_row}
use Rattle.feed_maker.proofs.tables.write_hubs.Given as goal

-- the rows of the hubs so far
abbrev pub invariant-loop-hub : goal.invariant-loop-hub
invariant-loop-hub l = string_bytes l.text ≡ string_bytes l.initial.text ++ joined hub_row l.hub
