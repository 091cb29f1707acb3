-- A journey that is at its target when it begins.
use Rattle.decision_graph.proofs.Common.{◌≡◌, ℕ, ◌<◌, ◌≤◌, [], Option, Some, None, MatchOption, MatchOption-at_some, sym, subst, arith, nat_tests, Scoring, ScoreLaws, Leg, Query, NetworkModel}
use Rattle.decision_graph.proofs.Common.{Tree, Done, Ride, Stuck, ExpandedGraph, RideTable, IsBestBy, IsNoneSafe, IsExpandedBy, HasSteadyChoice}
use Rattle.decision_graph.specs.Planned.{no_rides}
use Rattle.std.proofs.lemmas.List.Elements.{All-nil}
use Rattle.plan_model.specs.Unfold.{unfolding_of}
use Rattle.plan_model.proofs.Lists.{Contains-nil, AllPairs-nil}
use Rattle.plan_graph.specs.{Unfold.{Precedes, pick_after}, Ready.Stands}

unfolds : (n : NetworkModel) (q : Query) (choice : Leg → ℕ → Option Leg) → q.source.0 ≡ q.target.0 → unfolding_of n q choice None ≡ Done q.start.0
unfolds n q choice same = grind (arith, nat_tests)

-- to have arrived is the one safe strategy
module _ {V : Type 0} (scoring : Scoring V) (laws : ScoreLaws scoring) where
  best_at_once : (n : NetworkModel) (q : Query) → q.source.0 ≡ q.target.0 → q.start.0 ≤ q.deadline.0 → IsBestBy scoring n q (Done q.start.0) (scoring.arrived q.start.0)
  best_at_once n q same early = grind arith

  pub expanded_at_once : (n : NetworkModel) (q : Query) (graph : ExpandedGraph) (value : V) → q.source.0 ≡ q.target.0 → q.start.0 ≤ q.deadline.0
      → graph ≡ no_rides → value ≡ scoring.arrived q.start.0 → IsExpandedBy scoring n q graph value
  expanded_at_once n q graph value same early is exact =
      let best = subst (λ (t : Tree). IsBestBy scoring n q t (scoring.arrived q.start.0)) (sym (unfolds n q (pick_after []) same)) (best_at_once n q same early) in
      let whole : IsExpandedBy scoring n q no_rides (scoring.arrived q.start.0) = record {
        best = best;
        by_rules = λ differ. absurd (differ same);
        ready = record { safe = (q.deadline.0, best.safe); starts = same; rising = AllPairs-nil (λ (a b : RideTable). Precedes a.leg b.leg); rides = All-nil _ };
        busy = record { picked = All-nil _; stands = All-nil _ };
        whole = λ leg there. absurd (subst (λ (t : Tree). Stands leg t) (unfolds n q (pick_after []) same) there);
        arrivals = All-nil _;
      } in
      rw (is, exact) whole

-- past the deadline nothing is safe
pub none_late : (n : NetworkModel) (q : Query) → q.source.0 ≡ q.target.0 → q.deadline.0 < q.start.0 → IsNoneSafe n q
none_late n q same late (Done moment) safe = absurd (omega (arith, safe.0, safe.2))
none_late n q same late (Ride i j kids) safe = absurd (safe.0 same)
none_late n q same late (Stuck p x) safe = absurd safe

-- nothing is chosen after no ride
pub steady_at_once : (n : NetworkModel) (q : Query) (graph : ExpandedGraph) → graph ≡ no_rides → HasSteadyChoice n q graph
steady_at_once n q graph is =
    let none : HasSteadyChoice n q no_rides = record {
      choice = λ place arrival. None;
      steady = λ place arrival leg away chosen. absurd (cc);
      follows = λ r there. absurd (Contains-nil r there);
    } in
    rw is none

-- what is known of the graph of a journey that is at its target when it begins
pub in_time : (q : Query) (found : Option ExpandedGraph) (graph : ExpandedGraph) → found ≡ Some graph
    → MatchOption found (q.deadline.0 < q.start.0) (λ g. (q.start.0 ≤ q.deadline.0) × (g ≡ no_rides)) → (q.start.0 ≤ q.deadline.0) × (graph ≡ no_rides)
in_time q found graph is known = MatchOption-at_some (q.deadline.0 < q.start.0) (λ g. (q.start.0 ≤ q.deadline.0) × (g ≡ no_rides)) graph is known
