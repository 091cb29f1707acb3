-- What the chance as a score says of a graph is what its bounds say.
use Rattle.decision_graph.proofs.Common.{◌≡◌, ℕ, ◌*◌, ◌≤◌, arith, true, refl, nat_le, nat_tests, Interval, Query, NetworkModel, PlanGraph, IsPlannedBy, IsLeastChance}
use Rattle.plan_model.specs.{Bounds.certainty, Expected.late}
use Rattle.late_chance.specs.Chances.{chance_scoring}

none_late : (promise start : ℕ) → start ≤ promise → ◌≡◌ {A = Interval} (record { lo = certainty * late promise start; hi = certainty * late promise start }) (record { lo = 0; hi = 0 })
none_late promise start by = let test : nat_le start promise ≡ true = grind (arith, nat_tests) in rw test refl

pub least_chance : (n : NetworkModel) (q : Query) (graph : PlanGraph) (chance : Interval)
    → IsPlannedBy chance_scoring n q graph chance → IsLeastChance n q graph chance
least_chance n q graph chance by = grind (arith, none_late)
