use Rattle.connections.proofs.Common.{◌≡◌, list_below, links_of}
use Rattle.connections.proofs.cuts.links_of.Given as goal

abbrev pub invariant-loop-place : goal.invariant-loop-place
invariant-loop-place l = l.links ≡ list_below (links_of l.changes) l.place
