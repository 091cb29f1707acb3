-- What is safe from a gate is safe from its source a second later.
use Rattle.plan_model.proofs.Common.{◌≡◌, ◌≢◌, ℕ, ◌+◌, ◌<◌, arith, Option, Some, length, ap, ◌∙◌, NetworkModel, IsValid, from_of, way_of, nat_tests, Tree, Done, Ride, Stuck, IsLeg, IsGate}
use Rattle.plan_model.proofs.{Common.{common_steps, IsSafe, IsSafeFromStart, deadline_later_by}, Later.{later_by-none, deadline-none}, Views.{leg_there, start_there, start_back}}

module _ (n m : NetworkModel) (gate source : ℕ) (g : IsGate n m gate source) (valid : IsValid m) (target : ℕ) (by : Option ℕ) (inside : target < length m.change) (away : source ≢ target) where
  begins_inside : (i j : ℕ) → IsLeg n i j → from_of n i < length m.change
  begins_inside i j leg = grind (arith, common_steps, nat_tests, leg_there)

  -- in the network with the gate
  sets_out : (tree : Tree) (x : ℕ) → IsSafe n target by tree gate x → IsSafeFromStart n target by tree source (x + 1)
  sets_out tree x h = grind (arith, begins_inside)

  goes_on : (tree : Tree) (x : ℕ) → IsSafeFromStart n target by tree source (x + 1) → IsSafe n target by tree gate x
  goes_on (Done a) x h = absurd (away h.1)
  goes_on (Ride i j kids) x h =
      let way : way_of n gate (from_of n i) ≡ Some 1 = ap (way_of n gate) h.2.0 ∙ g.link in
      grind arith
  goes_on (Stuck q y) x h = absurd h

  pub gate_there : (tree : Tree) (x : ℕ) → IsSafe n target by tree gate x → IsSafeFromStart m target by tree source (x + 1)
  gate_there tree x h =
      let start = start_there n m 0 0 g.view valid target by tree source (x + 1) (sets_out tree x h) in
      grind (arith, later_by-none, deadline-none)

  pub gate_back : (tree : Tree) (x : ℕ) → IsSafeFromStart m target by tree source (x + 1) → IsSafe n target by tree gate x
  gate_back tree x h =
      let now : x + 1 ≡ x + 1 + 0 = omega arith in
      let reported : IsSafeFromStart m target (deadline_later_by 0 by) tree source (x + 1 + 0) = rw (deadline-none by, ← now) h in
      let from = start_back n m 0 0 g.view valid target by tree source (x + 1) (omega arith) reported in
      grind (arith, later_by-none, goes_on)
