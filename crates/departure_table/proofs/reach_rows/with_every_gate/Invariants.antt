use Rattle.departure_table.proofs.Common.{◌≡◌}
use Rattle.departure_table.specs.Reach.{places_up_to}
use Rattle.departure_table.proofs.reach_rows.with_every_gate.Given as goal

abbrev pub invariant-loop-place : goal.invariant-loop-place
invariant-loop-place l = l.sources.items ≡ places_up_to l.place
