-- The least chance of being late in a view is that in the network.
use Rattle.late_chance.proofs.Common.{◌≡◌, ℕ, ◌+◌, ◌≤◌, arith, Some, sym, ap, ◌∙◌, subst, Interval, Query, NetworkModel, certainty, Tree, IsSafeFor, late, LateBelow, LateCovers, later_by}
use Rattle.late_chance.proofs.{Common.{start_back, PlanGraph, unfold_plan, later_graph, later_query, IsShown, IsPunctual, PunctualAlike, rounded_up, rounded_down}, LaterGraphs.alike}
use Rattle.late_chance.proofs.Rounded.{up-later, down-later}
use Rattle.plan_model.proofs.Later.{below-later, covers-later, late-later}

module _ (n m : NetworkModel) (shift first : ℕ) (q : Query) (shown : IsShown n m shift first q) where
  abbrev Sooner : Tree → Type 0
  Sooner u = (tree : Tree) × (later_by shift tree ≡ u) × IsSafeFor n q tree

  sooner : (u : Tree) → IsSafeFor m (later_query shift q) u → Sooner u
  sooner u safe = start_back n m shift first shown.view shown.valid q.target.0 (Some q.deadline.0) u q.source.0 q.start.0 shown.late safe

  below : (promise lo : ℕ) (tree : Tree) → LateBelow promise lo tree → LateBelow (promise + shift) lo (later_by shift tree)
  below promise lo tree b = below-later shift (late (promise + shift)) (late promise) (late-later shift promise) certainty lo tree b

  covers : (promise hi : ℕ) (tree : Tree) → LateCovers promise hi tree → LateCovers (promise + shift) hi (later_by shift tree)
  covers promise hi tree b = covers-later shift (late (promise + shift)) (late promise) (late-later shift promise) certainty hi tree b

  up : (promise : ℕ) (tree : Tree) → rounded_up certainty (late (promise + shift)) (later_by shift tree) ≡ rounded_up certainty (late promise) tree
  up promise = up-later certainty shift (late (promise + shift)) (late promise) (late-later shift promise)

  down : (promise lo : ℕ) (tree : Tree) → lo ≤ rounded_down certainty (late promise) tree → lo ≤ rounded_down certainty (late (promise + shift)) (later_by shift tree)
  down promise lo tree less = let e = down-later certainty shift (late (promise + shift)) (late promise) (late-later shift promise) tree in omega (arith, e, less)

  least_up : (promise hi : ℕ) (tree : Tree) → hi ≤ rounded_up certainty (late promise) tree → hi ≤ rounded_up certainty (late (promise + shift)) (later_by shift tree)
  least_up promise hi tree less = omega (arith, up promise tree, less)

  graphs : (promise : ℕ) (graph : PlanGraph) (chance : Interval) → IsPunctual n q promise graph chance → IsPunctual m (later_query shift q) (promise + shift) (later_graph shift graph) chance
  graphs promise graph chance p =
      let reported = alike n m shift first q shown graph p.tidy p.safe in
      let own : Tree = unfold_plan graph n q in
      record {
        tidy = reported.tidy;
        safe = reported.safe;
        below_own = subst (λ (t : Tree). LateBelow (promise + shift) chance.lo t) (sym reported.unfolds) (below promise chance.lo own p.below_own);
        covers_own = subst (λ (t : Tree). LateCovers (promise + shift) chance.hi t) (sym reported.unfolds) (covers promise chance.hi own p.covers_own);
        rounded = p.rounded ∙ sym (up promise own) ∙ ap (rounded_up certainty (late (promise + shift))) (sym reported.unfolds);
        below_safe = λ u safe. let s = sooner u safe in subst (λ (t : Tree). LateBelow (promise + shift) chance.lo t) s.1 (below promise chance.lo s.0 (p.below_safe s.0 s.2));
        least = λ u safe. let s = sooner u safe in subst (λ (t : Tree). chance.lo ≤ rounded_down certainty (late (promise + shift)) t) s.1 (down promise chance.lo s.0 (p.least s.0 s.2));
        least_up = λ u safe. let s = sooner u safe in subst (λ (t : Tree). chance.hi ≤ rounded_up certainty (late (promise + shift)) t) s.1 (least_up promise chance.hi s.0 (p.least_up s.0 s.2));
        gap = let g = p.gap in let many = shown.view.as_many in omega arith;
        at_once = λ same by. p.at_once same (omega arith);
      }

  pub punctual_alike : PunctualAlike n m shift q
  punctual_alike = record {
    graphs = graphs;
    none = λ nothing u safe. let s = sooner u safe in nothing s.0 s.2;
  }
