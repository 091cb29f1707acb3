-- The best strategies of a network and of one that offers no less.
use Rattle.service_laws.proofs.{Common.{ℕ, ◌≡◌, ◌≤◌, arith, mul-le-mul_left, NetworkModel, Tree, Done, Ride, Kids, Nil, Kid, EmbedsNoLater, Rises, Some}, Found.compares, Trees.Compare}
use Rattle.service_laws.proofs.Trees.{CompareAll, NoLater, weighed}
use Rattle.plan_model.specs.declared.model.Query.{Query}
use Rattle.plan_model.proofs.Laws.{reaches_from_safe, safe_from_reaches}
use Rattle.interval_fixed.specs.Interval.{Interval}
use Rattle.value_laws.specs.Spans.{rounded_up, sum_up}
use Rattle.decision_graph.specs.GraphValues.{IsBest}

module _ (scale : ℕ) (leaf : ℕ → ℕ) (rises : Rises leaf) where
  mutual
    pub rounded_kept : (t u : Tree) → Compare NoLater t u → rounded_up scale leaf t ≤ rounded_up scale leaf u
    rounded_kept (Done a) (Done b) c = mul-le-mul_left scale (rises a b c)
    rounded_kept (Ride i j kids) (Ride k l others) c = omega (arith, sum_kept kids others c)
    rounded_kept _ _ c = absurd c

    sum_kept : (kids others : Kids) → CompareAll NoLater kids others → sum_up scale leaf kids ≤ sum_up scale leaf others
    sum_kept Nil Nil c = omega arith
    sum_kept (Kid w t kids) (Kid v u others) c =
        weighed w v (rounded_up scale leaf t) (rounded_up scale leaf u) (sum_up scale leaf kids) (sum_up scale leaf others) c.0 (rounded_kept t u c.1) (sum_kept kids others c.2)
    sum_kept _ _ c = absurd c

pub plan_no_worse : (small large : NetworkModel) (image place : ℕ → ℕ) (q r : Query) (strategy other : Tree) (bounds others : Interval) → EmbedsNoLater small large image place
    → IsBest small q strategy bounds → IsBest large r other others → r.source.0 ≡ place q.source.0 → r.target.0 ≡ place q.target.0 → r.start.0 ≤ q.start.0 → q.deadline.0 ≤ r.deadline.0
    → others.hi ≤ bounds.hi
plan_no_worse small large image place q r strategy other bounds others e one two source target start less =
    let (t, safe, alike) = (compares NoLater (λ a b least. least) small large image place e).from_start q.target.0 (Some q.deadline.0) strategy q.source.0 q.start.0 r.start.0 start one.safe in
    let reached = reaches_from_safe large (place q.source.0) (place q.target.0) r.start.0 q.deadline.0 t safe in
    let in_time = safe_from_reaches large (place q.source.0) (place q.target.0) r.start.0 r.deadline.0 t reached.0 (omega (arith, reached.1, less)) in
    grind (arith, rounded_kept)
